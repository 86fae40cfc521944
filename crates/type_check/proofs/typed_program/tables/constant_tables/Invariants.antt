use Rattle.std.proofs.Common.{take}
use Rattle.base.specs.Pairs.{Paired}
use Rattle.typing_rules.specs.CodeSystems.{constant_system}
use Rattle.type_check.specs.Tables.{IsTable}
use Rattle.type_check.proofs.typed_program.tables.constant_tables.Given as goal

abbrev pub invariant-loop-number : goal.invariant-loop-number
invariant-loop-number l = Paired (λ e t. IsTable (constant_system l.program e.1) t) (take l.number l.program.constants) l.tables.items
