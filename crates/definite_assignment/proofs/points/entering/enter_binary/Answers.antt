use Rattle.std.proofs.Common.{◌≡◌, ◌+◌, Bool, List, [], ◌∷◌, subst, sym}
use Rattle.program.specs.declared.code.CodeBinary.{CodeBinary}
use Rattle.typing_rules.specs.Flows.{Broken, Either, Jump}
use Rattle.typing_rules.specs.Pieces.{piece_at}
use Rattle.definite_assignment.specs.Views.{is_in}
use Rattle.definite_assignment.specs.Entries.{Entry, at_turns, binary_entries, in_order}
use Rattle.definite_assignment.specs.Tables.{Gains}
use Rattle.definite_assignment.proofs.Tabled.{binary_default}
use Rattle.definite_assignment.proofs.points.entering.enter_binary.Goals as goal

pub returns-in-Assign : goal.returns-in-Assign
returns-in-Assign c = λ i base pieces h all.
    subst (λ (f : CodeBinary). Gains i (binary_entries (base + i) pieces f c.args.left c.args.right (λ s. is_in c.args.states s i)) c.args.table.now c.enter_in_order.new.table)
    (sym c.in-Assign.is) (c.enter_in_order.ensures i base pieces h all)

pub returns-in-Let : goal.returns-in-Let
returns-in-Let c = λ i base pieces h all.
    subst (λ (f : CodeBinary). Gains i (binary_entries (base + i) pieces f c.args.left c.args.right (λ s. is_in c.args.states s i)) c.args.table.now c.enter_in_order-in-Let.new.table)
    (sym c.in-Let.is) (c.enter_in_order-in-Let.ensures i base pieces h all)

pub returns-in-While : goal.returns-in-While
returns-in-While c = λ i base pieces h all.
    let f = (piece_at pieces c.args.left).flow in
    let g = Either (Jump Broken) (piece_at pieces c.args.right).flow in
    let same : (λ s. is_in c.at_while-turns.result s i) ≡ at_turns (base + i) f g (λ s. is_in c.args.states s i) = λ j s. c.at_while-turns.ensures i base pieces s h all j in
    subst (λ (f : CodeBinary). Gains i (binary_entries (base + i) pieces f c.args.left c.args.right (λ s. is_in c.args.states s i)) c.args.table.now c.enter_in_order-in-While.new.table)
    (sym c.in-While.is)
    (subst (λ (b : Bool → Bool). Gains i (in_order (base + i) pieces (c.args.left ∷ c.args.right ∷ []) b) c.args.table.now c.enter_in_order-in-While.new.table) same (c.enter_in_order-in-While.ensures i base pieces h all))

pub returns-in_default : goal.returns-in_default
returns-in_default c = λ i base pieces h all.
    subst (λ (es : List Entry). Gains i es c.args.table.now c.enter_in_order-in_default.new.table)
    (binary_default (base + i) pieces c.args.form.now c.args.left c.args.right (λ s. is_in c.args.states s i) c.in_default.not-Assign c.in_default.not-While c.in_default.not-Let)
    (c.enter_in_order-in_default.ensures i base pieces h all)
