use Rattle.std.proofs.Common.{◌≡◌, ℕ, map, take}
use Rattle.unification.specs.Slots.{Typing}
use Rattle.unification.specs.Instances.{instance, arguments}
use Rattle.unification.proofs.type_variables.signature.+has_parameter.Given as goal

abbrev pub invariant-have_parameter-loop-of : goal.invariant-have_parameter-loop-of
invariant-have_parameter-loop-of l = (t : Typing) (base : ℕ) → map (instance (arguments t base l.count)) (take l.of-index l.types) ≡ take l.of-index l.types
