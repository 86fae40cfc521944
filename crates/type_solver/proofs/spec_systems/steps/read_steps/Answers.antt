use Rattle.std.proofs.Common.{List, [], length, ap, subst, ◌∙◌, arith}
use Rattle.std.proofs.lemmas.Result.{IfOk-weaker}
use Rattle.unification.specs.declared.type_variables.slots.Slot.{Slot}
use Rattle.type_solver.specs.Walking.{IsWalk}
use Rattle.type_constraints.specs.Seen.{seen_all}
use Rattle.type_constraints.specs.SpecSettings.{setting_of}
use Rattle.type_solver.specs.Equations.{reading_of}
use Rattle.type_solver.proofs.SpecSystemsWhole.{steps_whole}
use Rattle.type_solver.proofs.spec_systems.steps.read_steps.Goals as goal

pub returns : goal.returns
returns c =
    let w = reading_of c.args.tables in
    let begin : IsWalk w (length c.args.slots.now.items) [] c.args.slots.now.items c.start-begun.result = subst (λ (xs : List Slot). IsWalk w (length xs) [] xs c.start-begun.result) c.deref.ensures.value (c.start-begun.ensures w) in
    IfOk-weaker c.read_step-2.result _ _
    (λ after end. steps_whole w (length c.args.slots.now.items) c.len-variables.result c.args.slots.now.items c.read_step.new.slots.items c.read_nodes.new.slots.items c.read_step-2.new.slots.items c.start-begun.result c.in_ok-first.first c.in_ok-nodes.nodes after (setting_of c.args.setting) (seen_all c.deref-2.result.now) (seen_all c.args.whole.now)
    (omega (arith, c.args.slots.now.ok.0)) (ap seen_all c.deref-2.ensures.value ∙ c.in_ok-declared.ensures) begin c.in_ok-first.ensures.walk c.in_ok-nodes.ensures.walk end)
    c.read_step-2.ensures.walk
