use Rattle.std.proofs.Common.{◌≡◌, ◌+◌, ℕ, Bool, [], ◌∷◌, subst}
use Rattle.typing_rules.specs.Pieces.{piece_at}
use Rattle.definite_assignment.specs.Views.{is_in}
use Rattle.definite_assignment.specs.Entries.{Entry, behind}
use Rattle.definite_assignment.specs.Tables.{Gains}
use Rattle.definite_assignment.proofs.Tabled.{gains_both}
use Rattle.definite_assignment.proofs.points.entering.enter_branches.Goals as goal

pub returns : goal.returns
returns c = λ i base pieces h all.
    let l = base + i in
    let flow = (piece_at pieces c.args.condition).flow in
    let begun : Bool → Bool = λ s. is_in c.args.states s i in
    let next : Bool → Bool = λ s. is_in c.behind-behind.result s i in
    let shows = (all.each c.args.condition c.summary_at.result.now c.summary_at.ensures).flow in
    let same : next ≡ behind l flow begun = λ j s. c.behind-behind.ensures i base flow s h shows j in
    let entry : ℕ → (Bool → Bool) → Entry = λ p states. record { part = p; states = states } in
    let one : Gains i (entry c.args.condition begun ∷ []) c.args.table.now c.enter.new.table = c.enter.ensures i in
    let two : Gains i (entry c.args.yes (behind l flow begun) ∷ []) c.enter.new.table c.enter-2.new.table =
    subst (λ (f : Bool → Bool). Gains i (entry c.args.yes f ∷ []) c.enter.new.table c.enter-2.new.table) same (c.enter-2.ensures i) in
    let three : Gains i (entry c.args.no (behind l flow begun) ∷ []) c.enter-2.new.table c.enter-3.new.table =
    subst (λ (f : Bool → Bool). Gains i (entry c.args.no f ∷ []) c.enter-2.new.table c.enter-3.new.table) same (c.enter-3.ensures i) in
    gains_both i (entry c.args.condition begun ∷ entry c.args.yes (behind l flow begun) ∷ []) (entry c.args.no (behind l flow begun) ∷ []) c.args.table.now c.enter-2.new.table c.enter-3.new.table
    (gains_both i (entry c.args.condition begun ∷ []) (entry c.args.yes (behind l flow begun) ∷ []) c.args.table.now c.enter.new.table c.enter-2.new.table one two) three
