-- Numerals of lists of terms, triggers and formulas.
use Rattle.std.proofs.Common.{◌≡◌, inl, inr, ℕ, zero, suc, ◌+◌, ◌<◌, ◌≤◌, List, [], ◌∷◌, ◌++◌, length, take, get_or, Option, Some, None, refl, sym, ap, ◌∙◌, subst, arith}
use Rattle.std.specs.Prelude.{MatchOption}
use Rattle.std.specs.List.{flat_map}
use Rattle.std.proofs.lemmas.List.{take_more, take_all, flat_map_more}
use Rattle.std.proofs.lemmas.List.Elements.{Contains-append_left, Contains-append_right, Contains-append_cases}
use Rattle.fol.specs.FormulaData.{TermData, TermsData, FormulaData, terms_of, triggers_of, formulas_of}
use Rattle.substitution.specs.Numerals.{numerals_of_term, numerals_of_terms, numerals_of_triggers, numerals_of, numerals_of_formulas, IsWideAmong, HasNoWide}

pub none_both : (us vs : List ℕ) → HasNoWide us → HasNoWide vs → HasNoWide (us ++ vs)
none_both us vs h k = record {
  none = λ u among great. elim (Contains-append_cases us vs u among) [
    | inl left ↦ h.none u left great
    | inr right ↦ k.none u right great
  ];
}

pub wide_left : (us vs : List ℕ) (u : ℕ) → IsWideAmong us u → IsWideAmong (us ++ vs) u
wide_left us vs u h = record { among = Contains-append_left us vs u h.among; too_great = h.too_great }

pub wide_right : (us vs : List ℕ) (u : ℕ) → IsWideAmong vs u → IsWideAmong (us ++ vs) u
wide_right us vs u h = record { among = Contains-append_right us vs u h.among; too_great = h.too_great }

pub either : (us vs : List ℕ) (o : Option ℕ) → HasNoWide us → MatchOption o (HasNoWide vs) (IsWideAmong vs) → MatchOption o (HasNoWide (us ++ vs)) (IsWideAmong (us ++ vs))
either us vs None h k = none_both us vs h k
either us vs (Some u) h k = wide_right us vs u k

-- ---- lists

flat_next : {X : Type 0} (f : X → List ℕ) (xs : List X) (i : ℕ) (d : X) → i < length xs → flat_map f (take (i + 1) xs) ≡ flat_map f (take i xs) ++ f (get_or xs i d)
flat_next f xs i d before = ap (flat_map f) (take_more xs i d before) ∙ sym (flat_map_more f [] (take i xs) (get_or xs i d))

module _ {X : Type 0} (f : X → List ℕ) (xs : List X) (i : ℕ) (d : X) where
  pub none_next : i < length xs → HasNoWide (flat_map f (take i xs)) → HasNoWide (f (get_or xs i d)) → HasNoWide (flat_map f (take (i + 1) xs))
  none_next before h k = subst HasNoWide (sym (flat_next f xs i d before)) (none_both (flat_map f (take i xs)) (f (get_or xs i d)) h k)

pub none_whole : {X : Type 0} (f : X → List ℕ) (xs : List X) (i : ℕ) → length xs ≤ i → HasNoWide (flat_map f (take i xs)) → HasNoWide (flat_map f xs)
none_whole f xs i over h = subst (λ ys. HasNoWide (flat_map f ys)) (take_all i xs over) h

pub none_begun : HasNoWide []
none_begun = record { none = λ u among great. absurd (omega (arith, among.1)) }

pub found_in : {X : Type 0} (f : X → List ℕ) (xs : List X) (i : ℕ) (d : X) (u : ℕ) → i < length xs → IsWideAmong (f (get_or xs i d)) u → IsWideAmong (flat_map f xs) u
found_in f [] i d u before h = absurd (omega (arith, before))
found_in f (x ∷ xs) zero d u before h = wide_left (f x) (flat_map f xs) u h
found_in f (x ∷ xs) (suc i) d u before h = wide_right (f x) (flat_map f xs) u (found_in f xs i d u (omega (arith, before)) h)

pub terms_flat : (ts : List TermData) → numerals_of_terms (terms_of ts) ≡ flat_map numerals_of_term ts
terms_flat [] = refl
terms_flat (t ∷ ts) = ap (λ us. numerals_of_term t ++ us) (terms_flat ts)

pub triggers_flat : (ts : List TermsData) → numerals_of_triggers (triggers_of ts) ≡ flat_map numerals_of_terms ts
triggers_flat [] = refl
triggers_flat (t ∷ ts) = ap (λ us. numerals_of_terms t ++ us) (triggers_flat ts)

pub formulas_flat : (ps : List FormulaData) → numerals_of_formulas (formulas_of ps) ≡ flat_map numerals_of ps
formulas_flat [] = refl
formulas_flat (p ∷ ps) = ap (λ us. numerals_of p ++ us) (formulas_flat ps)
