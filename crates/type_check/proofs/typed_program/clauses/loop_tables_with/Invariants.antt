use Rattle.std.proofs.Common.{map, take}
use Rattle.base.specs.Pairs.{Paired}
use Rattle.base.specs.TypeData.{NoTypes}
use Rattle.typing_rules.specs.Clauses.{LoopBlock, clause_system, loop_names}
use Rattle.type_check.specs.Tables.{IsTable}
use Rattle.type_check.proofs.typed_program.clauses.loop_tables_with.Given as goal

abbrev pub invariant-loop-one : goal.invariant-loop-one
invariant-loop-one l = Paired (λ clause t. IsTable (clause_system l.program (loop_names l.function.result l.locals) LoopBlock NoTypes clause) t) (map (λ x. x.clause) (take l.one-index l.one-items)) l.tables
