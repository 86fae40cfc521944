use Rattle.std.proofs.lemmas.Result.{IfOk-weaker}
use Rattle.typing_rules.specs.CodeSystems.{constant_system}
use Rattle.body_types.proofs.Choosing.{constant_walk, constant_code, none_says, some_says}
use Rattle.body_types.proofs.code.typing.constant_typing.Goals as goal

pub known_typings-requires-clause-known : goal.known_typings-requires-clause-known
known_typings-requires-clause-known c =
    (constant_system c.args.program.now c.args.constant.now, constant_walk c.args.program.now c.args.constant.now c.in_ok-walk.walk c.in_ok-walk.ensures.walked c.in_ok-walk.ensures.variables)

pub returns-in-None-clause-says : goal.returns-in-None-clause-says
returns-in-None-clause-says c =
    let s = constant_system c.args.program.now c.args.constant.now in
    none_says s _ c.in-None.is (c.in_ok-known_typings.ensures s (constant_walk c.args.program.now c.args.constant.now c.in_ok-walk.walk c.in_ok-walk.ensures.walked c.in_ok-walk.ensures.variables))

pub typing_of-requires-clause-known : goal.typing_of-requires-clause-known
typing_of-requires-clause-known c =
    let s = constant_system c.args.program.now c.args.constant.now in (
      s,
      (
        some_says s _ c.in-Some.known c.in-Some.is (c.in_ok-known_typings.ensures s (constant_walk c.args.program.now c.args.constant.now c.in_ok-walk.walk c.in_ok-walk.ensures.walked c.in_ok-walk.ensures.variables)),
        constant_code c.args.program.now c.args.constant.now,
      ),
    )

pub returns-in-Some-clause-says : goal.returns-in-Some-clause-says
returns-in-Some-clause-says c =
    let s = constant_system c.args.program.now c.args.constant.now in
    IfOk-weaker c.typing_of.result _ _
    (λ typing h. h s (some_says s _ c.in-Some.known c.in-Some.is (c.in_ok-known_typings.ensures s (constant_walk c.args.program.now c.args.constant.now c.in_ok-walk.walk c.in_ok-walk.ensures.walked c.in_ok-walk.ensures.variables)))
    (constant_code c.args.program.now c.args.constant.now))
    c.typing_of.ensures.says
