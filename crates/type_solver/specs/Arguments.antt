-- The types substituted for type parameters.
use Rattle.std.specs.Prelude.{ℕ, ◌+◌, ◌≤◌}
use Rattle.base.specs.TypeData.{TypeData, types_of}
use Rattle.typing_rules.specs.Constraint.{arguments}
use Rattle.typing_rules.specs.Instances.{argument_in}
use Rattle.unification.specs.Slots.{Typing}
use Rattle.type_solver.specs.declared.read.Arguments.{Arguments}
use Rattle.type_solver.specs.declared.read.Arguments.TheVariants.{Types, Variables}

abbrev pub stated : Typing → Arguments → ℕ → TypeData
stated t (Types types) = argument_in (types_of types.now)
stated t (Variables p) = arguments t p.base p.count

-- their type variables are among the first n
abbrev pub ArgumentsWithin : ℕ → Arguments → Type 0
ArgumentsWithin n (Types types) = Unit {0}
ArgumentsWithin n (Variables p) = p.base + p.count ≤ n
