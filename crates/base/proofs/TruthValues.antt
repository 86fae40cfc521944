-- Truth values: conjunctions, disjunctions and negations, and tests as facts.
use Rattle.std.proofs.Common.{◌≡◌, ◌↔◌, ◌⊎◌, inl, inr, Bool, true, false, not, ◌&&◌, ◌||◌, refl, ◌∙◌, subst, rules}
use Rattle.std.specs.Prelude.{IsTrue}

-- ---- two at a time

pub both_true : (a b : Bool) → a && b ≡ true → (a ≡ true) × (b ≡ true)
both_true true b e = (refl, e)
both_true false b e = absurd (cc)

pub true_both : (a b : Bool) → a ≡ true → b ≡ true → a && b ≡ true
true_both a b e g = (λ i. e i && b) ∙ g

pub either_true : (a b : Bool) → a || b ≡ true → (a ≡ true) ⊎ (b ≡ true)
either_true true b e = inl refl
either_true false b e = inr e

pub true_either : (a b : Bool) → (a ≡ true) ⊎ (b ≡ true) → a || b ≡ true
true_either a b (inl e) = (λ i. e i || b)
true_either true b (inr e) = refl
true_either false b (inr e) = e

pub either_false : (a b : Bool) → a || b ≡ true → (a ≡ true → ⊥) → (b ≡ true → ⊥) → ⊥
either_false true b e f g = f refl
either_false false b e f g = g e

pub not_either : (a b : Bool) → not (a || b) ≡ true → (not a ≡ true) × (not b ≡ true)
not_either true b e = absurd (cc)
not_either false b e = (refl, e)

pub or_true : (a : Bool) → a || true ≡ true
or_true true = refl
or_true false = refl

-- ---- negations

pub not_not : (a : Bool) → not (not a) ≡ true → a ≡ true
not_not true e = refl
not_not false e = absurd (cc)

pub never_both : (a : Bool) → a ≡ true → not a ≡ true → ⊥
never_both true e f = absurd (cc)
never_both false e f = absurd (cc)

pub true_not : (a : Bool) → (a ≡ true → ⊥) → not a ≡ true
true_not true h = absurd (h refl)
true_not false h = refl

pub apart : (b : Bool) → b ≡ true → b ≡ false → ⊥
apart b t f = absurd (cc)

-- ---- tests as facts

pub true_is : (b : Bool) → b ≡ true → IsTrue b
true_is b e = search rules

pub never : IsTrue false → ⊥
never h = search rules

pub not_true : (b : Bool) → b ≡ false → IsTrue b → ⊥
not_true b e h = never (subst IsTrue e h)

-- a test that is true, of a true fact
pub holds : (P : Type 0) → P → IsTrue true ↔ P
holds P p = (λ h. p, λ q. true_is true refl)

-- a test that is false, of a false fact
pub fails : (P : Type 0) → (P → ⊥) → IsTrue false ↔ P
fails P none = (λ h. absurd (never h), λ p. absurd (none p))
