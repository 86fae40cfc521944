-- Keys of constraints: one key has the numbers of one constraint.
use Rattle.std.proofs.Common.{◌≡◌, Bool, true, cond, List, [], ◌∷◌, ◌++◌, pos, ℤ, refl, sym, ap, ◌∙◌, subst, inl, inr}
use Rattle.std.specs.Prelude.{Contains}
use Rattle.std.specs.BTreeMap.{is_at}
use Rattle.std.specs.BTreeSet.{BTreeSet, contains, Updates}
use Rattle.std.specs.declared.cmp.Ordering.{Ordering}
use Rattle.std.specs.declared.cmp.Ordering.TheVariants.{Less, Equal, Greater}
use Rattle.std.specs.Ordering.{int_cmp, is_eq, ordering_then}
use Rattle.std.specs.Cmp.Lexicographic.{slice_cmp}
use Rattle.std.specs.Global.{Vec}
use Rattle.std.proofs.lemmas.Bool.{false≢true, cases_Bool}
use Rattle.std.proofs.lemmas.List.Elements.{Contains-push, Contains-append_left}
use Rattle.std.proofs.lemmas.Map.Lookups.{exact_signed}
use Rattle.linear_arith.specs.Inequality.{Inequality}
use Rattle.linear_arith.specs.Stages.{HasKey, key_cmp}

both_equal : (a b : Ordering) → is_eq (ordering_then a b) ≡ true → (a ≡ Equal) × (is_eq b ≡ true)
both_equal Less b e = absurd (false≢true e)
both_equal Equal b e = (refl, e)
both_equal Greater b e = absurd (false≢true e)

-- lists of numbers that compare as equal are equal
exact_numbers : (xs ys : List ℤ) → is_eq (slice_cmp int_cmp xs ys) ≡ true → xs ≡ ys
exact_numbers [] [] e = refl
exact_numbers [] (y ∷ ys) e = absurd (false≢true e)
exact_numbers (x ∷ xs) [] e = absurd (false≢true e)
exact_numbers (x ∷ xs) (y ∷ ys) e = let b = both_equal (int_cmp x y) (slice_cmp int_cmp xs ys) e in λ i. exact_signed x y b.0 i ∷ exact_numbers xs ys b.1 i

abbrev first : List ℤ → ℤ
first [] = pos 0
first (x ∷ xs) = x

abbrev others : List ℤ → List ℤ
others [] = []
others (x ∷ xs) = xs

same_row : (a b : Inequality) → a.bound ∷ a.coefficients ≡ b.bound ∷ b.coefficients → a ≡ b
same_row a b e = λ i. record { coefficients = ap others e i; bound = ap first e i }

-- with one more key and its constraint, each key has a constraint
pub no_other_with : (old new : BTreeSet (Vec ℤ)) (found : List Inequality) (row : Inequality) (key : Vec ℤ) → key.items ≡ row.bound ∷ row.coefficients → Updates key_cmp old new key true → ((other : Inequality) → HasKey old other → Contains found other) → (other : Inequality) → HasKey new other → Contains (found ++ row ∷ []) other
no_other_with old new found row key numbers updates before other has =
    elim (cases_Bool (is_at (key_cmp key) has.key)) [
      | inl t ↦ subst (λ (r : Inequality). Contains (found ++ row ∷ []) r) (same_row row other (sym numbers ∙ exact_numbers key.items has.key.items t ∙ has.numbers)) (Contains-push found row)
      | inr f ↦ Contains-append_left found (row ∷ []) other (before other (record {
        key = has.key;
        numbers = has.numbers;
        stands = sym (updates.0 has.key ∙ ap (λ (b : Bool). cond b true (contains key_cmp old has.key)) f) ∙ has.stands;
      }))
    ]
