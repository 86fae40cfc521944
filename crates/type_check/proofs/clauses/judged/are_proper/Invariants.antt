use Rattle.std.proofs.Common.{◌≡◌, drop}
use Rattle.std.specs.List.{list_all}
use Rattle.typing_rules.specs.ProperTypes.{is_proper_single}
use Rattle.type_check.proofs.clauses.judged.are_proper.Given as goal

abbrev pub invariant-loop-variable : goal.invariant-loop-variable
invariant-loop-variable l =
    list_all (λ v. is_proper_single l.program.structs v.annotation) l.variables
    ≡ list_all (λ v. is_proper_single l.program.structs v.annotation) (drop l.variable-index l.variables)
