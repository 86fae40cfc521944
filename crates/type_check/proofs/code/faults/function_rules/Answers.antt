use Rattle.typing_rules.specs.Calls.{IsWrapping}
use Rattle.typing_rules.specs.CodeSystems.{function_system}
use Rattle.type_check.specs.Split.{IsIllTyped}
use Rattle.type_check.proofs.Typings.{either}
use Rattle.type_check.proofs.code.faults.function_rules.Goals as goal

pub returns-clause-untyped : goal.returns-clause-untyped
returns-clause-untyped c = λ program id f is wraps.
    either c.is_ill_typed-ill.result c.args.wraps (IsIllTyped (function_system program f) f.body.nodes) (IsWrapping program id)
    (c.is_ill_typed-ill.ensures (function_system program f) f.body.nodes c.args.typing.now.pool is.says) wraps

pub returns-clause-unsettled : goal.returns-clause-unsettled
returns-clause-unsettled c = λ program f is. c.is_ambiguous.ensures (function_system program f) f.body.nodes c.args.typing.now.pool is.says
