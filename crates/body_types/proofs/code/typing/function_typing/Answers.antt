use Rattle.std.proofs.lemmas.Result.{IfOk-weaker}
use Rattle.typing_rules.specs.CodeSystems.{function_system}
use Rattle.body_types.proofs.Choosing.{function_walk, function_code, none_says, some_says}
use Rattle.body_types.proofs.code.typing.function_typing.Goals as goal

pub known_typings-requires-clause-known : goal.known_typings-requires-clause-known
known_typings-requires-clause-known c =
    (function_system c.args.program.now c.args.function.now, function_walk c.args.program.now c.args.function.now c.in_ok-walk.walk c.in_ok-walk.ensures.walked c.in_ok-walk.ensures.variables)

pub returns-in-None-clause-says : goal.returns-in-None-clause-says
returns-in-None-clause-says c =
    let s = function_system c.args.program.now c.args.function.now in
    none_says s _ c.in-None.is (c.in_ok-known_typings.ensures s (function_walk c.args.program.now c.args.function.now c.in_ok-walk.walk c.in_ok-walk.ensures.walked c.in_ok-walk.ensures.variables))

pub typing_of-requires-clause-known : goal.typing_of-requires-clause-known
typing_of-requires-clause-known c =
    let s = function_system c.args.program.now c.args.function.now in (
      s,
      (
        some_says s _ c.in-Some.known c.in-Some.is (c.in_ok-known_typings.ensures s (function_walk c.args.program.now c.args.function.now c.in_ok-walk.walk c.in_ok-walk.ensures.walked c.in_ok-walk.ensures.variables)),
        function_code c.args.program.now c.args.function.now,
      ),
    )

pub returns-in-Some-clause-says : goal.returns-in-Some-clause-says
returns-in-Some-clause-says c =
    let s = function_system c.args.program.now c.args.function.now in
    IfOk-weaker c.typing_of.result _ _
    (λ typing h. h s (some_says s _ c.in-Some.known c.in-Some.is (c.in_ok-known_typings.ensures s (function_walk c.args.program.now c.args.function.now c.in_ok-walk.walk c.in_ok-walk.ensures.walked c.in_ok-walk.ensures.variables)))
    (function_code c.args.program.now c.args.function.now))
    c.typing_of.ensures.says
