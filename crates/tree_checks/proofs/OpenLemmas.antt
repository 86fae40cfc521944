-- A branch that is saturated, and has the values.
use Rattle.std.proofs.Common.{◌≡◌, ◌↔◌, Bool, true, false, IsTrue, sym, ◌∙◌}

pub saturated_too : {A B : Type 0} (r s : Bool) → r ≡ true → IsTrue r ↔ B → IsTrue s ↔ A → IsTrue s ↔ (A × B)
saturated_too r s e h k = (λ t. (k.0 t, h.0 e), λ w. k.1 w.0)

pub not_even_valued : {A B : Type 0} (r : Bool) → r ≡ false → IsTrue r ↔ B → IsTrue false ↔ (A × B)
not_even_valued r e h = (λ t. absurd (cc), λ w. sym e ∙ h.1 w.1)
