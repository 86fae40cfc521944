use Rattle.std.proofs.lemmas.Result.{IfOk-weaker}
use Rattle.typing_rules.specs.CodeSystems.{constant_system}
use Rattle.body_types.specs.Typable.{IsTypable}
use Rattle.body_types.proofs.Choosing.{constant_walk, constant_code, nodes_inside, none_says, some_says}
use Rattle.body_types.proofs.Running.{no_run_fails, constant_fails}
use Rattle.body_types.proofs.code.runs.constant_run_fails.Goals as goal

pub known_typings-requires-clause-known : goal.known_typings-requires-clause-known
known_typings-requires-clause-known c =
    (constant_system c.args.program.now c.args.constant.now, constant_walk c.args.program.now c.args.constant.now c.in_ok-walk.walk c.in_ok-walk.ensures.walked c.in_ok-walk.ensures.variables)

pub returns-in-None : goal.returns-in-None
returns-in-None c =
    let s = constant_system c.args.program.now c.args.constant.now in
    no_run_fails c.args.program.now c.args.constant.now
    (none_says s _ c.in-None.is (c.in_ok-known_typings.ensures s (constant_walk c.args.program.now c.args.constant.now c.in_ok-walk.walk c.in_ok-walk.ensures.walked c.in_ok-walk.ensures.variables)))

pub fails_to_run-requires-clause-sound : goal.fails_to_run-requires-clause-sound
fails_to_run-requires-clause-sound c =
    let s = constant_system c.args.program.now c.args.constant.now in
    (some_says s _ c.in-Some.known c.in-Some.is (c.in_ok-known_typings.ensures s (constant_walk c.args.program.now c.args.constant.now c.in_ok-walk.walk c.in_ok-walk.ensures.walked c.in_ok-walk.ensures.variables))).sound

pub fails_to_run-requires-clause-within : goal.fails_to_run-requires-clause-within
fails_to_run-requires-clause-within c =
    let s = constant_system c.args.program.now c.args.constant.now in
    nodes_inside s c.args.constant.now.value.nodes c.in-Some.known
    (some_says s _ c.in-Some.known c.in-Some.is (c.in_ok-known_typings.ensures s (constant_walk c.args.program.now c.args.constant.now c.in_ok-walk.walk c.in_ok-walk.ensures.walked c.in_ok-walk.ensures.variables)))
    (constant_code c.args.program.now c.args.constant.now)

pub returns-in-Some : goal.returns-in-Some
returns-in-Some c =
    let s = constant_system c.args.program.now c.args.constant.now in
    let is : IsTypable s c.in-Some.known = some_says s _ c.in-Some.known c.in-Some.is (c.in_ok-known_typings.ensures s (constant_walk c.args.program.now c.args.constant.now c.in_ok-walk.walk c.in_ok-walk.ensures.walked c.in_ok-walk.ensures.variables)) in
    IfOk-weaker c.fails_to_run.result _ _
    (λ fails h. constant_fails c.args.program.now c.args.constant.now fails (h s is.has (constant_code c.args.program.now c.args.constant.now).inside))
    c.fails_to_run.ensures
