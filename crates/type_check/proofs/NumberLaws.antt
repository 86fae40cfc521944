-- The instances that clauses include are numbered, one clause after another.
use Rattle.std.proofs.Common.{◌≡◌, ℕ, ◌+◌, ◌<◌, ◌≤◌, ◌⊎◌, inl, inr, List, [], ◌∷◌, ◌++◌, length, Option, Some, None, refl, sym, ◌∙◌, ap, subst, arith}
use Rattle.std.specs.Prelude.{slice_get}
use Rattle.std.proofs.lemmas.Bool.{cases_lt}
use Rattle.std.proofs.lemmas.List.{append-nil, length-append}
use Rattle.std.proofs.lemmas.Option.{slice_get_within}
use Rattle.type_check.specs.ClausesInstances as I
use Rattle.type_check.specs.Judged.{instance_of}
use Rattle.type_check.specs.declared.clauses.instance.Instance.{Instance}
use Rattle.type_check.specs.declared.clauses.judged.JudgedClause.{JudgedClause}
use Rattle.type_check.specs.Closing.{Grows}
use Rattle.type_check.specs.Known.{IsPut}
use Rattle.type_check.proofs.KeyLaws.{last_there}
use Rattle.type_check.proofs.LevelLaws.{grows_not}
use Rattle.type_check.proofs.SchemasLists.{at_contained, get_before, get_grown, get_old, some_inside}
use Rattle.type_check.specs.Numbered.{AreNumbered, IsNumberOf, IsRootOf, StandsAt}
use Rattle.type_check.specs.declared.spec.first.RootClause.{RootClause}

pub no_number : (known : List I.Instance) (included : Option Instance) → included ≡ None → IsNumberOf known known included None
no_number known included e = record {
  grows = grows_not known;
  stands = subst (λ (o : Option Instance). StandsAt known o None) (sym e) refl;
  added = λ n i le at. absurd (let within = slice_get_within known n i at in omega (arith, le, within));
}

pub put_number : (old new : List I.Instance) (included : Option Instance) (k : Instance) (number : ℕ) → included ≡ Some k → IsPut old new (instance_of k) number → IsNumberOf old new included (Some number)
put_number old new included k number e put = record {
  grows = elim put.others [ inl same ↦ ([], same ∙ sym (append-nil old)) | inr behind ↦ (instance_of k ∷ [], behind) ];
  stands = subst (λ (o : Option Instance). StandsAt new o (Some number)) (sym e) (number, (refl, put.there));
  added = λ n i le at. (k, (e, last_of n i le at put.others));
}
  where
    last_of : (n : ℕ) (j : I.Instance) → length old ≤ n → slice_get new n ≡ Some j → (new ≡ old) ⊎ (new ≡ old ++ instance_of k ∷ []) → instance_of k ≡ j
    last_of n j le at (inl same) = absurd (let within = slice_get_within new n j at in let size = ap (λ (xs : List I.Instance). length xs) same in omega (arith, le, within, size))
    last_of n j le at (inr behind) =
        let stands : slice_get (old ++ instance_of k ∷ []) n ≡ Some j = ap (λ (xs : List I.Instance). slice_get xs n) (sym behind) ∙ at in
        let within = slice_get_within (old ++ instance_of k ∷ []) n j stands in
        let size = length-append old (instance_of k ∷ []) in
        let here : n ≡ length old = omega (arith, le, within, size) in
        some_inside (instance_of k) j (sym (last_there old (instance_of k)) ∙ ap (λ (m : ℕ). slice_get (old ++ instance_of k ∷ []) m) (sym here) ∙ stands)

-- ---- one more clause

stands_grown : (old new : List I.Instance) (included : Option Instance) (number : Option ℕ) → Grows old new → StandsAt old included number → StandsAt new included number
stands_grown old new None number grows s = s
stands_grown old new (Some i) number grows s = (s.0, (s.1.0, get_grown old new grows.0 s.0 (instance_of i) grows.1 s.1.1))

pub none_numbered : (judged : List JudgedClause) (known : List I.Instance) (roots : List RootClause) → known ≡ [] → roots ≡ [] → AreNumbered known judged roots 0
none_numbered judged known roots e f = record {
  same_length = ap (λ (rs : List RootClause). length rs) f;
  each = λ k one root lt at there. absurd (omega (arith, lt));
  only = λ m i at. absurd (let within = slice_get_within known m i at in let size = ap (λ (xs : List I.Instance). length xs) e in omega (arith, within, size));
}

last_is : (k n : ℕ) → k < n + 1 → (k < n) ⊎ (k ≡ n)
last_is k n lt = elim (cases_lt k n) [ inl below ↦ inl below | inr other ↦ inr (omega (arith, lt, other)) ]

pub more_numbered : (judged : List JudgedClause) (old new : List I.Instance) (roots roots2 : List RootClause) (n : ℕ) (one : JudgedClause) (root : RootClause) (number : Option ℕ) → slice_get judged n ≡ Some one
    → AreNumbered old judged roots n → IsNumberOf old new one.included number → IsRootOf new one root → roots2 ≡ roots ++ root ∷ [] → AreNumbered new judged roots2 (n + 1)
more_numbered judged old new roots roots2 n one root number at numbered is root_is e = record {
  same_length = (let a = ap (λ (rs : List RootClause). length rs) e in let b = length-append roots (root ∷ []) in let c = numbered.same_length in omega (arith, a, b, c));
  each = λ k other r lt there stands.
      let stands2 : slice_get (roots ++ root ∷ []) k ≡ Some r = ap (λ (rs : List RootClause). slice_get rs k) (sym e) ∙ stands in
      elim (last_is k n lt) [
        | inl below ↦
            let size = numbered.same_length in
            let old_is = numbered.each k other r below there (sym (get_before roots (root ∷ []) k (omega (arith, below, size))) ∙ stands2) in
            record { span = old_is.span; untyped = old_is.untyped; unsettled = old_is.unsettled; included = stands_grown old new other.included r.included is.grows old_is.included }
        | inr here ↦
            let same : one ≡ other = some_inside one other (sym at ∙ ap (λ (m : ℕ). slice_get judged m) (sym here) ∙ there) in
            let own : root ≡ r = some_inside root r (sym (last_there roots root) ∙ ap (λ (m : ℕ). slice_get (roots ++ root ∷ []) m) (numbered.same_length ∙ sym here) ∙ stands2) in
            subst (λ (o : JudgedClause). IsRootOf new o r) same (subst (λ (x : RootClause). IsRootOf new one x) own root_is)
      ];
  only = λ m i there. elim (cases_lt m (length old)) [
    | inl below ↦ numbered.only m i (get_old old new is.grows.0 m i is.grows.1 below there)
    | inr over ↦ (let w = is.added m i (omega (arith, over)) there in (one, (w.0, (at_contained judged n one at, w.1.0, w.1.1))))
  ];
}
