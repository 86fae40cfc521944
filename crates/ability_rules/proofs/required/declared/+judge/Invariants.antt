use Rattle.std.proofs.Common.{◌≡◌, ◌&&◌, drop}
use Rattle.base.specs.TypeData.{types_of}
use Rattle.program.specs.Sets.{both}
use Rattle.program.specs.Types.{common}
use Rattle.typing_rules.specs.Required.{are_constrained}
use Rattle.ability_rules.proofs.required.declared.+judge.Given as goal

abbrev pub invariant-judge_all-loop-number : goal.invariant-judge_all-loop-number
invariant-judge_all-loop-number l = record {
  common : both l.found (common l.structs l.params l.parameters l.number (types_of (drop l.number l.types))) ≡ common l.structs l.params l.parameters 0 (types_of l.types);
  constrained : (l.are && are_constrained l.structs l.params l.parameters l.number (types_of (drop l.number l.types))) ≡ are_constrained l.structs l.params l.parameters 0 (types_of l.types);
}
