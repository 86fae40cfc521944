use Rattle.std.proofs.lemmas.Result.{IfOk-weaker}
use Rattle.typing_rules.specs.Clauses.{spec_function_system}
use Rattle.body_types.proofs.Telling.{function_walk}
use Rattle.body_types.proofs.spec.typing.function_typing.Goals as goal

pub typing_of-requires : goal.typing_of-requires
typing_of-requires c = (
  spec_function_system c.args.program.now c.args.function.now,
  function_walk c.args.program.now c.args.function.now c.in_ok-walk.walk c.in_ok-walk.ensures.walked c.in_ok-walk.ensures.variables,
)

pub returns-clause-says : goal.returns-clause-says
returns-clause-says c =
    let walk = function_walk c.args.program.now c.args.function.now c.in_ok-walk.walk c.in_ok-walk.ensures.walked c.in_ok-walk.ensures.variables in
    IfOk-weaker c.typing_of.result _ _ (λ typing h. h (spec_function_system c.args.program.now c.args.function.now) walk) c.typing_of.ensures.says
