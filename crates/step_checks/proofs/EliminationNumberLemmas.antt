-- Sets of numbers, by what they contain.
use Rattle.std.proofs.Common.{◌≡◌, ◌≢◌, Bool, true, false, cond, not, ℕ, ◌+◌, ◌<◌, List, [], ◌∷◌, ◌++◌, length, take, get_or, refl, sym, ap, ◌∙◌, subst, arith, inl, inr}
use Rattle.std.specs.Prelude.{Contains}
use Rattle.std.specs.BTreeMap.{is_at}
use Rattle.std.specs.BTreeSet.{BTreeSet, contains, Updates}
use Rattle.std.specs.List.{AllPairs, list_any}
use Rattle.std.specs.Ordering.{nat_cmp}
use Rattle.std.proofs.lemmas.Bool.{false≢true}
use Rattle.std.proofs.lemmas.Bool.Decides.{nat_tests, eqb_tells}
use Rattle.std.proofs.lemmas.List.{take_more, get_or-take, length-take-le}
use Rattle.std.proofs.lemmas.List.Elements.{Contains-get_or, Contains-push, Contains-push_cases, Contains-append_left}
use Rattle.std.proofs.lemmas.List.Quantifiers.{all_pairs_push}
use Rattle.linear_arith.proofs.ListLemmas.{get_or-any_default}
use Rattle.step_checks.specs.Sets.{IsNumberSet}

pub empty_set : (set : BTreeSet ℕ) → set.keys ≡ [] → IsNumberSet [] set
empty_set set e = record {
  has = λ n. (
    λ t. absurd (false≢true (sym (ap (λ (ks : List ℕ). list_any (is_at (nat_cmp n)) ks) e) ∙ t)),
    λ h. absurd (let l = h.1 in omega (arith, l)),
  );
}

same_at : (n q : ℕ) → n ≡ q → is_at (nat_cmp n) q ≡ true
same_at n q e = grind (arith, nat_tests)

other_at : (n q : ℕ) → n ≢ q → is_at (nat_cmp n) q ≡ false
other_at n q e = grind (arith, nat_tests)

pub set_with : (numbers : List ℕ) (old new : BTreeSet ℕ) (n : ℕ) → IsNumberSet numbers old → Updates nat_cmp old new n true → IsNumberSet (numbers ++ n ∷ []) new
set_with numbers old new n s updates = record {
  has = λ q. elim (eqb_tells n q) [
    | inl e ↦ (
      λ t. subst (λ (k : ℕ). Contains (numbers ++ n ∷ []) k) e.1 (Contains-push numbers n),
      λ h. updates.0 q ∙ ap (λ (b : Bool). cond b true (contains nat_cmp old q)) (same_at n q e.1),
    )
    | inr ne ↦
        let kept : contains nat_cmp new q ≡ contains nat_cmp old q = updates.0 q ∙ ap (λ (b : Bool). cond b true (contains nat_cmp old q)) (other_at n q ne.1) in (
          λ t. Contains-append_left numbers (n ∷ []) q ((s.has q).0 (sym kept ∙ t)),
          λ h. kept ∙ (elim (Contains-push_cases numbers n q h) as (λ _. contains nat_cmp old q ≡ true) [ inl o ↦ (s.has q).1 o | inr e ↦ absurd (ne.1 e) ]),
        )
  ];
}

pub numbers_more : (numbers : List ℕ) (i n : ℕ) → i < length numbers → n ≡ get_or numbers i 0 → take (i + 1) numbers ≡ take i numbers ++ n ∷ []
numbers_more numbers i n l is = take_more numbers i 0 l ∙ ap (λ (k : ℕ). take i numbers ++ k ∷ []) (sym is)

abbrev pub AreDistinct : List ℕ → Type 0
AreDistinct numbers = AllPairs (λ first second. first ≢ second) numbers

not_there : (numbers : List ℕ) (set : BTreeSet ℕ) (n : ℕ) (fresh : Bool) → IsNumberSet numbers set → fresh ≡ not (contains nat_cmp set n) → fresh ≡ true → Contains numbers n → ⊥
not_there numbers set n fresh s e t h = let f : true ≡ false = sym t ∙ e ∙ ap not ((s.has n).1 h) in cc

pub distinct_more : (numbers : List ℕ) (set : BTreeSet ℕ) (n : ℕ) (fresh : Bool) → IsNumberSet numbers set → fresh ≡ not (contains nat_cmp set n) → fresh ≡ true → AreDistinct numbers → AreDistinct (numbers ++ n ∷ [])
distinct_more numbers set n fresh s e t d = all_pairs_push (λ (a b : ℕ). a ≢ b) numbers n d (λ k x l same. not_there numbers set n fresh s e t (subst (λ (m : ℕ). Contains numbers m) same (Contains-get_or numbers k x l)))

is_there : (numbers : List ℕ) (set : BTreeSet ℕ) (n : ℕ) (b fresh : Bool) → b ≡ contains nat_cmp set n → IsNumberSet numbers set → fresh ≡ not b → fresh ≡ false → Contains numbers n
is_there numbers set n true fresh is s e f = (s.has n).0 (sym is)
is_there numbers set n false fresh is s e f = absurd (cc)

-- a number that is in the set already occurs twice
pub not_distinct : (numbers : List ℕ) (set : BTreeSet ℕ) (i n : ℕ) (fresh : Bool) → i < length numbers → n ≡ get_or numbers i 0 → IsNumberSet (take i numbers) set → fresh ≡ not (contains nat_cmp set n) → fresh ≡ false → AreDistinct numbers → ⊥
not_distinct numbers set i n fresh l is s e f d =
    let h = is_there (take i numbers) set n (contains nat_cmp set n) fresh refl s e f in
    let k = h.0 in
    let m = h.1 in
    let short = length-take-le i numbers (omega (arith, l)) in
    let before : k < i = omega (arith, m, short) in
    d k i n before l (sym (get_or-take i numbers k n before) ∙ h.2 ∙ is ∙ get_or-any_default numbers i 0 n l)
