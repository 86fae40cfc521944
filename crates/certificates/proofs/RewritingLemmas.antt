-- The meaning of the tests of the replacement of equals by equals.
use Rattle.std.proofs.Common.{◌≡◌, ◌↔◌, Bool, true, false, ◌⊎◌, inl, inr}
use Rattle.std.specs.Prelude.{IsTrue}
use Rattle.base.proofs.TruthValues.{true_is, not_true, holds}

pub first_replaced : (P Q : Type 0) (a : Bool) → IsTrue a ↔ P → a ≡ true → IsTrue true ↔ (P ⊎ Q)
first_replaced P Q a test e = holds (P ⊎ Q) (inl (test.0 (true_is a e)))

pub second_replaced : (P Q : Type 0) (a b : Bool) → IsTrue a ↔ P → a ≡ false → IsTrue b ↔ Q → IsTrue b ↔ (P ⊎ Q)
second_replaced P Q a b test e other = (λ h. inr (other.0 h), λ h. elim h [ inl p ↦ absurd (not_true a e (test.1 p)) | inr q ↦ other.1 q ])
