use Rattle.std.proofs.Common.{List, length, ap}
use Rattle.std.proofs.lemmas.Result.{IfOk-weaker}
use Rattle.program.specs.declared.declaration.TypedName.{TypedName}
use Rattle.typing_rules.specs.Events.{Unassigned, Undropped}
use Rattle.definite_assignment.proofs.Bodies.{breaks_if}
use Rattle.definite_assignment.proofs.whole_program.flow.function_rules.Goals as goal

pub returns-clause-unassigned : goal.returns-clause-unassigned
returns-clause-unassigned c =
    IfOk-weaker c.broken_rules.result _ _
    (λ broken h. breaks_if c.args.program.now Unassigned c.args.function.now c.in_ok-types.types.items c.as_slice-sets.result.now (length c.as_slice-parameters.result.now) broken.unassigned
    c.in_ok-types.ensures c.as_slice-sets.ensures.value (ap (λ (xs : List TypedName). length xs) c.as_slice-parameters.ensures) h)
    c.broken_rules.ensures.unassigned

pub returns-clause-undropped : goal.returns-clause-undropped
returns-clause-undropped c =
    IfOk-weaker c.broken_rules.result _ _
    (λ broken h. breaks_if c.args.program.now Undropped c.args.function.now c.in_ok-types.types.items c.as_slice-sets.result.now (length c.as_slice-parameters.result.now) broken.undropped
    c.in_ok-types.ensures c.as_slice-sets.ensures.value (ap (λ (xs : List TypedName). length xs) c.as_slice-parameters.ensures) h)
    c.broken_rules.ensures.undropped
