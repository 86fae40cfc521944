use Rattle.std.proofs.Common.{◌+◌, length}
use Rattle.typing_rules.specs.CodeSystems.{function_system}
use Rattle.type_check.proofs.Placing.{TypesTo}
use Rattle.type_check.proofs.typed_program.locals.local_types.Given as goal

abbrev pub invariant-loop-local : goal.invariant-loop-local
invariant-loop-local l = TypesTo (function_system l.program l.function) (length l.function.body.nodes) (length l.function.body.nodes + l.local) l.terms.items
