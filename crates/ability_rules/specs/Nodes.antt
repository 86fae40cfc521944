-- What is lacking at one node of a body.
use Rattle.std.specs.Prelude.{◌≡◌, ◌⊎◌, ◌+◌, ℕ}
use Rattle.program.specs.declared.declaration.Function.{Function}
use Rattle.program.specs.declared.program.Program.{Program}
use Rattle.typing_rules.specs.Required.{LacksRequired, LacksConstraint, LacksWritten}
use Rattle.typing_rules.specs.CodeSystems.{function_setting}
use Rattle.typing_rules.specs.Settings.{first_argument}

-- the node with this number lacks an ability, or has a type argument or a written type that is not valid
abbrev pub NodeLacksAbility : Program → Function → ℕ → Type 0
NodeLacksAbility program f n =
    ((h : LacksRequired program f) × (h.node ≡ n)) ⊎ (((h : LacksConstraint program f) × (h.node ≡ n)) ⊎ ((h : LacksWritten program f) × (h.node ≡ n)))

-- nothing is lacking there, and the type arguments of the next node are the type variables from this one on
pub record IsAbleTo (program : Program) (f : Function) (n next : ℕ) : Type 0 where
  pub able : NodeLacksAbility program f n → ⊥
  pub next_is : next ≡ first_argument (function_setting program f) (n + 1)
