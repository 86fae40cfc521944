use Rattle.std.proofs.Common.{◌≡◌, drop}
use Rattle.base.specs.TypeData.{types_of}
use Rattle.program.specs.Sets.{both}
use Rattle.program.specs.Types.{common}
use Rattle.program.proofs.abilities.+of_type.Given as goal

abbrev pub invariant-common-loop-number : goal.invariant-common-loop-number
invariant-common-loop-number l =
    both l.found (common l.structs l.params l.parameters l.number (types_of (drop l.number l.types))) ≡ common l.structs l.params l.parameters 0 (types_of l.types)
