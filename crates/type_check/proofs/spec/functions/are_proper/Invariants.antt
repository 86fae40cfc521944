use Rattle.std.proofs.Common.{◌≡◌, drop}
use Rattle.std.specs.List.{list_all}
use Rattle.typing_rules.specs.ProperTypes.{is_proper_single}
use Rattle.type_check.proofs.spec.functions.are_proper.Given as goal

abbrev pub invariant-loop-parameter : goal.invariant-loop-parameter
invariant-loop-parameter l =
    list_all (λ p. is_proper_single l.program.structs p.annotation) l.parameters
    ≡ list_all (λ p. is_proper_single l.program.structs p.annotation) (drop l.parameter-index l.parameters)
