-- Truth values of what never holds.
use Rattle.std.proofs.Common.{◌↔◌, false, IsTrue}

-- false is right for what never holds
pub never : {P : Type 0} → (P → ⊥) → IsTrue false ↔ P
never f = (λ t. absurd (cc), λ p. absurd (f p))
