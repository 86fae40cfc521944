use Rattle.std.proofs.Common.{List, [], ◌∷◌, length, subst, arith}
use Rattle.std.proofs.lemmas.Result.{IfOk-weaker}
use Rattle.type_constraints.specs.Seen.{seen, seen_all}
use Rattle.type_constraints.specs.CodeSettings.{setting_of}
use Rattle.unification.specs.declared.type_variables.slots.Slot.{Slot}
use Rattle.type_solver.specs.Equations.{reading_of}
use Rattle.type_solver.specs.Walking.{IsWalk}
use Rattle.type_solver.proofs.CodeSystemsWhole.{value_whole}
use Rattle.type_solver.proofs.code_systems.systems.read_value.Goals as goal

pub returns : goal.returns
returns c =
    let w = reading_of c.args.tables in
    let begin : IsWalk w (length c.args.slots.now.items) [] c.args.slots.now.items c.start-begun.result = subst (λ (xs : List Slot). IsWalk w (length xs) [] xs c.start-begun.result) c.deref.ensures.value (c.start-begun.ensures w) in
    IfOk-weaker c.read_step-2.result _ _
    (λ after end. value_whole w (length c.args.slots.now.items) c.len-variables.result c.args.slots.now.items c.read_step.new.slots.items c.read_values.new.slots.items c.read_step-2.new.slots.items c.start-begun.result c.in_ok-first.first c.in_ok-last.last after (setting_of c.args.setting) (seen_all c.args.declared.now) (seen c.args.whole ∷ [])
    (omega (arith, c.args.slots.now.ok.0)) begin c.in_ok-first.ensures.walk c.in_ok-last.ensures.walk end)
    c.read_step-2.ensures.walk
