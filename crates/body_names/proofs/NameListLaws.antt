-- Names appended to a list, and the last index of each.
use Rattle.std.proofs.Common.{◌≡◌, ℕ, suc, List, [], ◌∷◌, ◌++◌, length, Bool, true, false, Some, None, Option, refl, ap, sym, ◌∙◌, ◌⊎◌, inl, inr, subst, arith, slice_get}
use Rattle.std.specs.Prelude.{Result, Ok, Err, OnOk, is_err, cond, if◌then◌else◌, option_and_then}
use Rattle.std.specs.Map.{lookup}
use Rattle.base.specs.Names.{same_name}
use Rattle.program.specs.declared.spec.SpecName.{SpecName}
use Rattle.body_names.specs.NameLists.{IsIndexOf, last_index, later}
use Rattle.body_names.specs.OuterNames.{outer_meaning, or_name, with_meanings}

-- an appended name has its last index there
pub last_next : (names : List (List ℕ)) (x q : List ℕ) → last_index (names ++ x ∷ []) q ≡ cond (same_name x q) (Some (length names)) (last_index names q)
last_next [] x q = by (same_name x q)
  where
    by : (b : Bool) → later None (if b then Some 0 else None) ≡ cond b (Some 0) None
    by true = refl
    by false = refl
last_next (y ∷ ys) x q = ap (λ o. later o (if same_name y q then Some 0 else None)) (last_next ys x q) ∙ by (same_name x q)
  where
    by : (b : Bool) → later (cond b (Some (length ys)) (last_index ys q)) (if same_name y q then Some 0 else None) ≡ cond b (Some (suc (length ys))) (later (last_index ys q) (if same_name y q then Some 0 else None))
    by true = refl
    by false = refl

-- what holds if there is a value
pub on_ok : {T E P : Type 0} (r : Result T E) → is_err r ≡ false → OnOk r P → P
on_ok (Ok x) e h = h
on_ok (Err y) e h = absurd (cc)

-- a map in which one more name is set to its index
pub index_next : (es fs : List (List ℕ × ℕ)) (names more : List (List ℕ)) (x y : List ℕ) (n : ℕ) → IsIndexOf es names → more ≡ names ++ x ∷ [] → y ≡ x → n ≡ length names → ((q : List ℕ) → lookup (same_name q) fs ≡ cond (same_name y q) (Some n) (lookup (same_name q) es)) → IsIndexOf fs more
index_next es fs names more x y n h grown same index updates = record {
  found = λ q. updates q ∙ (λ i. cond (same_name (same i) q) (Some (index i)) (h.found q i)) ∙ sym (last_next names x q) ∙ ap (λ ns. last_index ns q) (sym grown);
}

-- one more name with its meaning
pub with_meanings_next : (names : List (List ℕ)) (meanings : List SpecName) (x : List ℕ) (m : SpecName) → length names ≡ length meanings → with_meanings (names ++ x ∷ []) (meanings ++ m ∷ []) ≡ with_meanings names meanings ++ record { name = x; meaning = m } ∷ []
with_meanings_next [] [] x m e = refl
with_meanings_next [] (k ∷ ks) x m e = absurd (omega (arith, e))
with_meanings_next (n ∷ ns) [] x m e = absurd (omega (arith, e))
with_meanings_next (n ∷ ns) (k ∷ ks) x m e = ap (λ os. record { name = n; meaning = k } ∷ os) (with_meanings_next ns ks x m (omega (arith, e)))

-- the meaning of a name is the one at its last index
record Found (index : Option ℕ) (meanings : List SpecName) (meaning : Option SpecName) : Type 0 where
  at : ℕ
  what : SpecName
  index_is : index ≡ Some at
  beside : slice_get meanings at ≡ Some what
  meaning_is : meaning ≡ Some what

record Absent (index : Option ℕ) (meaning : Option SpecName) : Type 0 where
  index_is : index ≡ None
  meaning_is : meaning ≡ None

seek : (names : List (List ℕ)) (meanings : List SpecName) (q : List ℕ) → length names ≡ length meanings → Absent (last_index names q) (outer_meaning (with_meanings names meanings) q) ⊎ Found (last_index names q) meanings (outer_meaning (with_meanings names meanings) q)
seek [] [] q e = inl (record { index_is = refl; meaning_is = refl })
seek [] (k ∷ ks) q e = absurd (omega (arith, e))
seek (n ∷ ns) [] q e = absurd (omega (arith, e))
seek (n ∷ ns) (k ∷ ks) q e = by (seek ns ks q (omega (arith, e)))
  where
    here : (b : Bool) → Absent (if b then Some 0 else None) (if b then Some k else None) ⊎ Found (if b then Some 0 else None) (k ∷ ks) (if b then Some k else None)
    here true = inr (record { at = 0; what = k; index_is = refl; beside = refl; meaning_is = refl })
    here false = inl (record { index_is = refl; meaning_is = refl })

    index : Option ℕ → Option ℕ
    index o = later o (if same_name n q then Some 0 else None)

    meaning : Option SpecName → Option SpecName
    meaning o = or_name o (if same_name n q then Some k else None)

    by : Absent (last_index ns q) (outer_meaning (with_meanings ns ks) q) ⊎ Found (last_index ns q) ks (outer_meaning (with_meanings ns ks) q) → Absent (index (last_index ns q)) (meaning (outer_meaning (with_meanings ns ks) q)) ⊎ Found (index (last_index ns q)) (k ∷ ks) (meaning (outer_meaning (with_meanings ns ks) q))
    by (inl none) =
        let P : Option ℕ → Option SpecName → Type 0 = λ o m. Absent (index o) (meaning m) ⊎ Found (index o) (k ∷ ks) (meaning m) in
        subst (λ o. P o (outer_meaning (with_meanings ns ks) q)) (sym none.index_is) (subst (λ m. P None m) (sym none.meaning_is) (here (same_name n q)))
    by (inr one) = inr (record {
      at = suc one.at;
      what = one.what;
      index_is = ap index one.index_is;
      beside = one.beside;
      meaning_is = ap meaning one.meaning_is;
    })

pub meaning_found : (names : List (List ℕ)) (meanings : List SpecName) (q : List ℕ) → length names ≡ length meanings → outer_meaning (with_meanings names meanings) q ≡ option_and_then (slice_get meanings) (last_index names q)
meaning_found names meanings q e = by (seek names meanings q e)
  where
    by : Absent (last_index names q) (outer_meaning (with_meanings names meanings) q) ⊎ Found (last_index names q) meanings (outer_meaning (with_meanings names meanings) q) → outer_meaning (with_meanings names meanings) q ≡ option_and_then (slice_get meanings) (last_index names q)
    by (inl none) = none.meaning_is ∙ sym (ap (option_and_then (slice_get meanings)) none.index_is)
    by (inr one) = one.meaning_is ∙ sym (ap (option_and_then (slice_get meanings)) one.index_is ∙ one.beside)
