-- Lists of names that differ.
use Rattle.std.proofs.Common.{◌≡◌, ℕ, true, false, not, ◌||◌, List, [], ◌∷◌, ◌++◌, refl, sym, ap, subst, ◌∙◌, inl, inr}
use Rattle.std.specs.Cmp.Lexicographic.{same_text, nat_list_eq_equiv}
use Rattle.std.proofs.lemmas.Bool.{cases_Bool, both_ways, and_parts, and_from, or_parts, or_from, or_left, or_right, not-true, not_from_true, not_from_false, and_left, and_right}
use Rattle.std.proofs.lemmas.List.Folds.{list_any-append}
use Rattle.base.specs.Names.{same_name}
use Rattle.base.proofs.NameLaws.{is_one_of-push}
use Rattle.sum_module.specs.Scope.{all_differ}
use Rattle.base.specs.Names.{is_one_of}

pub same_name-refl : (a : List ℕ) → same_name a a ≡ true
same_name-refl a = nat_list_eq_equiv.refl a

pub same_name-symm : (a b : List ℕ) → same_name a b ≡ same_name b a
same_name-symm a b = nat_list_eq_equiv.symm a b

pub same_name-is : (a b : List ℕ) → same_name a b ≡ true → a ≡ b
same_name-is a b e = same_text a b (sym e)

pub is_one_of-middle : (front : List (List ℕ)) (n : List ℕ) (back : List (List ℕ)) → is_one_of (front ++ n ∷ back) n ≡ true
is_one_of-middle front n back = list_any-append (same_name n) front (n ∷ back) ∙ or_right (is_one_of front n) _ (or_left (same_name n n) _ (same_name-refl n))

-- a name that occurs before is found twice
pub all_differ-again : (front : List (List ℕ)) (n : List ℕ) (back : List (List ℕ)) → is_one_of front n ≡ true → all_differ (front ++ n ∷ back) ≡ false
all_differ-again [] n back e = absurd (cc)
all_differ-again (a ∷ front) n back e = elim (cases_Bool (same_name n a)) [
  | inl s ↦ and_left (not (is_one_of (front ++ n ∷ back) a)) _ (not_from_true _ (subst (λ x. is_one_of (front ++ n ∷ back) x ≡ true) (same_name-is n a s) (is_one_of-middle front n back)))
  | inr s ↦ and_right _ (all_differ (front ++ n ∷ back)) (all_differ-again front n back (ap (λ b. b || is_one_of front n) (sym s) ∙ e))
]

pub all_differ-push : (front : List (List ℕ)) (n : List ℕ) → all_differ front ≡ true → is_one_of front n ≡ false → all_differ (front ++ n ∷ []) ≡ true
all_differ-push [] n d e = refl
all_differ-push (a ∷ front) n d e =
    let p = and_parts (not (is_one_of front a)) (all_differ front) d in
    let q = or_parts (same_name n a) (is_one_of front n) e in
    and_from _ _ (not_from_false _ (is_one_of-push front n a ∙ or_from _ _ (not-true _ p.0) (or_from _ _ (same_name-symm a n ∙ q.0) refl))) (all_differ-push front n p.1 q.1)

-- if all names differ, one is none of those before it
pub not_before : (front : List (List ℕ)) (n : List ℕ) (back : List (List ℕ)) → all_differ (front ++ n ∷ back) ≡ true → is_one_of front n ≡ false
not_before front n back d = elim (cases_Bool (is_one_of front n)) [
  | inl y ↦ absurd (both_ways _ (all_differ-again front n back y) d)
  | inr e ↦ e
]
