-- Too many arguments.
use Rattle.std.proofs.Common.{◌≡◌, ℕ, ◌<◌, List, [], ◌∷◌, length, drop, ap, drop-cons}
use Rattle.typing_rules.specs.Constraint.{Barred}
use Rattle.typing_rules.specs.SpecConstraints.{spec_given_constraints}

-- an argument, and no parameter left for it
pub no_parameter : (first count i : ℕ) (parts : List ℕ) → i < length parts → spec_given_constraints first count (drop i parts) [] ≡ Barred ∷ []
no_parameter first count i parts h = ap (λ (xs : List ℕ). spec_given_constraints first count xs []) (drop-cons parts i 0 h)
