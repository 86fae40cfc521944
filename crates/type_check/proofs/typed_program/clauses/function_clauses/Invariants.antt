use Rattle.std.proofs.Common.{take}
use Rattle.base.specs.Pairs.{Paired}
use Rattle.type_check.specs.Clauses.{AreFunctionClauses}
use Rattle.type_check.proofs.typed_program.clauses.function_clauses.Given as goal

abbrev pub invariant-loop-number : goal.invariant-loop-number
invariant-loop-number l = Paired (λ e t. AreFunctionClauses l.program e.1 t) (take l.number l.program.functions) l.all.items
