-- Too many or too few arguments, or parts for fields.
use Rattle.std.proofs.Common.{◌≡◌, ℕ, ◌<◌, List, [], ◌∷◌, length, drop, refl, ap, drop-cons, arith}
use Rattle.typing_rules.specs.Constraint.{Barred}
use Rattle.typing_rules.specs.CodeConstraints.{given_constraints}

-- an argument, and no parameter left for it
pub no_parameter : (first count i : ℕ) (parts : List ℕ) → i < length parts → given_constraints first count (drop i parts) [] ≡ Barred ∷ []
no_parameter first count i parts h = ap (λ (xs : List ℕ). given_constraints first count xs []) (drop-cons parts i 0 h)

pub none_of : {A : Type 0} (xs : List A) → length xs ≡ 0 → xs ≡ []
none_of [] h = refl
none_of (x ∷ xs) h = absurd (omega arith)
