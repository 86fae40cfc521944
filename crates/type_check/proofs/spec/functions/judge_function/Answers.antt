use Rattle.typing_rules.specs.Clauses.{spec_function_system}
use Rattle.type_check.proofs.RootLaws.{or_improper}
use Rattle.type_check.proofs.spec.functions.judge_function.Goals as goal

pub returns-clause-untyped : goal.returns-clause-untyped
returns-clause-untyped c =
    or_improper (spec_function_system c.args.program.now c.args.function.now) _ _ _ (c.is_untypable.ensures (spec_function_system c.args.program.now c.args.function.now) c.function_typing.new.pool c.in_ok-typing.ensures.says) c.is_signature_proper-is_proper.ensures

pub returns-clause-unsettled : goal.returns-clause-unsettled
returns-clause-unsettled c = c.is_ambiguous.ensures (spec_function_system c.args.program.now c.args.function.now) c.function_typing.new.pool c.in_ok-typing.ensures.says
