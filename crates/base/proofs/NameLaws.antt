-- Laws of the comparison of names, and of sets of names.
use Rattle.std.proofs.Common.{◌≡◌, ◌≢◌, ℕ, Bool, true, false, cond, ◌||◌, List, [], ◌∷◌, ◌++◌, refl, sym, ap, ◌∙◌}
use Rattle.std.specs.List.{AllByRecursion}
use Rattle.std.specs.Ordering.{nat_cmp, is_eq}
use Rattle.std.specs.Cmp.{unsigned_ties}
use Rattle.std.specs.Cmp.Lexicographic.{same_text, slice_cmp, lists_ties, nat_list_eq_equiv}
use Rattle.std.proofs.lemmas.List.Folds.{list_any-append}
use Rattle.base.specs.Names.{same_name, is_one_of}

pub same_name-same : (w : List ℕ) → same_name w w ≡ true
same_name-same w = nat_list_eq_equiv.refl w

pub same_name-other : (w v : List ℕ) → w ≢ v → same_name w v ≡ false
same_name-other w v h = go (same_name w v) refl
  where
    go : (b : Bool) → same_name w v ≡ b → same_name w v ≡ false
    go true e = absurd (h (same_text w v (sym e)))
    go false e = e

-- ---- lists of names

pub none_of-sound : (names : List (List ℕ)) (w : List ℕ) → is_one_of names w ≡ false → AllByRecursion (λ other. w ≢ other) names
none_of-sound [] w e = tt
none_of-sound (k ∷ ks) w e = go (same_name w k) refl e (λ h. none_of-sound ks w h)
  where
    differs : true ≡ false → ⊥
    differs h = cc

    go : (b : Bool) → same_name w k ≡ b → (b || is_one_of ks w) ≡ false → (is_one_of ks w ≡ false → AllByRecursion (λ other. w ≢ other) ks) → AllByRecursion (λ other. w ≢ other) (k ∷ ks)
    go true is e more = absurd (cc)
    go false is e more = (λ h. differs (sym (ap (same_name w) (sym h) ∙ same_name-same w) ∙ is), more e)

pub none_of-complete : (names : List (List ℕ)) (w : List ℕ) → AllByRecursion (λ other. w ≢ other) names → is_one_of names w ≡ false
none_of-complete [] w a = refl
none_of-complete (k ∷ ks) w a = ap (λ b. b || is_one_of ks w) (same_name-other w k a.0) ∙ none_of-complete ks w a.1

-- ---- sets

-- two names are equal in the order of a set where they are the same
pub is_eq-same_name : (a b : List ℕ) → is_eq (slice_cmp nat_cmp a b) ≡ same_name a b
is_eq-same_name a b = sym (lists_ties nat_cmp unsigned_ties a b)

pub is_one_of-push : (names : List (List ℕ)) (n q : List ℕ) → is_one_of (names ++ n ∷ []) q ≡ (is_one_of names q || (same_name q n || false))
is_one_of-push names n q = list_any-append (same_name q) names (n ∷ [])

-- one more name
pub set_more : (names : List (List ℕ)) (n q : List ℕ) (t u : Bool) → t ≡ is_one_of names q → u ≡ cond (is_eq (slice_cmp nat_cmp n q)) true t → u ≡ is_one_of (names ++ n ∷ []) q
set_more names n q t u before more =
    more ∙ ap (λ b. cond b true t) (is_eq-same_name n q ∙ nat_list_eq_equiv.symm n q) ∙ ap (λ b. cond (same_name q n) true b) before
    ∙ one (is_one_of names q) (same_name q n) ∙ sym (is_one_of-push names n q)
  where
    one : (a b : Bool) → cond b true a ≡ (a || (b || false))
    one true true = refl
    one true false = refl
    one false true = refl
    one false false = refl
