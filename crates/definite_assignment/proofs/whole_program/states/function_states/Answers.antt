use Rattle.std.proofs.Common.{List, length, ap}
use Rattle.std.proofs.lemmas.Result.{IfOk-weaker}
use Rattle.program.specs.declared.declaration.TypedName.{TypedName}
use Rattle.definite_assignment.proofs.Bodies.{has_states}
use Rattle.definite_assignment.proofs.whole_program.states.function_states.Goals as goal

pub returns : goal.returns
returns c =
    IfOk-weaker c.local_states.result _ _
    (λ states h. has_states c.args.program.now c.args.function.now c.in_ok-types.types.items c.as_slice-sets.result.now (length c.as_slice-parameters.result.now) states
    c.in_ok-types.ensures c.as_slice-sets.ensures.value (ap (λ (xs : List TypedName). length xs) c.as_slice-parameters.ensures) h)
    c.local_states.ensures
