use Rattle.std.proofs.Common.{take}
use Rattle.base.specs.Pairs.{Paired}
use Rattle.typing_rules.specs.Clauses.{spec_function_system}
use Rattle.type_check.specs.Tables.{IsTable}
use Rattle.type_check.proofs.typed_program.tables.spec_function_tables.Given as goal

abbrev pub invariant-loop-number : goal.invariant-loop-number
invariant-loop-number l = Paired (λ e t. IsTable (spec_function_system l.program e.1) t) (take l.number l.program.spec_functions) l.tables.items
