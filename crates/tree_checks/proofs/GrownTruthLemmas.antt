-- Truth values of checks.
use Rattle.std.proofs.Common.{◌≡◌, ◌↔◌, Bool, false, IsTrue}
use Rattle.std.specs.Prelude.{OnOk, Result, Ok, Err}

-- false is right for what never holds
pub never : {P : Type 0} → (P → ⊥) → IsTrue false ↔ P
never f = (λ t. absurd (cc), λ p. absurd (f p))

pub weaker : {A B : Type 0} (r : Bool) → (A → B) → (B → A) → IsTrue r ↔ A → IsTrue r ↔ B
weaker r f g h = (λ t. f (h.0 t), λ b. h.1 (g b))

-- a check that is false and exact refutes its claim, and one that is true shows it
pub refuted : {P : Type 0} (r : Bool) → r ≡ false → IsTrue r ↔ P → P → ⊥
refuted r e h p = (let yes = h.1 p in absurd (cc))

-- what holds for any result holds if the call succeeds
pub on_ok : {V E : Type 0} {P : Type 0} (r : Result V E) → P → OnOk r P
on_ok (Ok v) h = h
on_ok (Err e) h = tt
