use Rattle.std.proofs.Common.{◌≡◌, ◌+◌, Bool, List, [], ◌∷◌, subst, sym}
use Rattle.program.specs.declared.code.CodeUnary.{CodeUnary}
use Rattle.typing_rules.specs.Flows.{quiet}
use Rattle.typing_rules.specs.Pieces.{piece_at}
use Rattle.definite_assignment.specs.Views.{is_in}
use Rattle.definite_assignment.specs.Entries.{Entry, at_turns, unary_entries, in_order}
use Rattle.definite_assignment.specs.Tables.{Gains}
use Rattle.definite_assignment.proofs.Tabled.{unary_default}
use Rattle.definite_assignment.proofs.points.entering.enter_unary.Goals as goal

pub returns-in-Loop : goal.returns-in-Loop
returns-in-Loop c = λ i base pieces h all.
    let g = (piece_at pieces c.args.part).flow in
    let shows = (all.each c.args.part c.summary_at.result.now c.summary_at.ensures).flow in
    let same : (λ s. is_in c.at_turns-turns.result s i) ≡ at_turns (base + i) quiet g (λ s. is_in c.args.states s i) = λ j s. c.at_turns-turns.ensures i base quiet g s h (c.quiet.ensures base) shows j in
    subst (λ (f : CodeUnary). Gains i (unary_entries (base + i) pieces f c.args.part (λ s. is_in c.args.states s i)) c.args.table.now c.enter_in_order.new.table)
    (sym c.in-Loop.is)
    (subst (λ (b : Bool → Bool). Gains i (in_order (base + i) pieces (c.args.part ∷ []) b) c.args.table.now c.enter_in_order.new.table) same (c.enter_in_order.ensures i base pieces h all))

pub returns-in_default : goal.returns-in_default
returns-in_default c = λ i base pieces h all.
    subst (λ (es : List Entry). Gains i es c.args.table.now c.enter_in_order-in_default.new.table)
    (unary_default (base + i) pieces c.args.form.now c.args.part (λ s. is_in c.args.states s i) c.in_default.not-Loop c.in_default.not-Declare)
    (c.enter_in_order-in_default.ensures i base pieces h all)
