-- Truth values of checks.
use Rattle.std.proofs.Common.{◌≡◌, ◌↔◌, Bool, true, false, not, IsTrue, refl}

-- false is right for what never holds
pub never : {P : Type 0} → (P → ⊥) → IsTrue false ↔ P
never f = (λ t. absurd (cc), λ p. absurd (f p))

pub weaker : {A B : Type 0} (r : Bool) → (A → B) → (B → A) → IsTrue r ↔ A → IsTrue r ↔ B
weaker r f g h = (λ t. f (h.0 t), λ b. h.1 (g b))

pub not_so : {P : Type 0} (r : Bool) → IsTrue r ↔ P → IsTrue (not r) ↔ (P → ⊥)
not_so true h = (λ t. absurd (cc), λ none. absurd (none (h.0 refl)))
not_so false h = (λ t p. (let yes = h.1 p in absurd (cc)), λ none. refl)

-- a check that is false and exact refutes its claim
pub refuted : {P : Type 0} (r : Bool) → r ≡ false → IsTrue r ↔ P → P → ⊥
refuted r e h p = (let yes = h.1 p in absurd (cc))
