use Rattle.std.proofs.Common.{◌+◌, ℕ, List, subst, sym}
use Rattle.typing_rules.specs.Pieces.{CodeNode}
use Rattle.definite_assignment.specs.Views.{is_in}
use Rattle.definite_assignment.specs.Entries.{entries, many_entries}
use Rattle.definite_assignment.specs.Tables.{Gains}
use Rattle.definite_assignment.proofs.points.entering.enter_parts.Goals as goal

pub returns-in-Unary : goal.returns-in-Unary
returns-in-Unary c = λ i base pieces h all.
    subst (λ (n : CodeNode). Gains i (entries (base + i) pieces n (λ s. is_in c.args.states s i)) c.args.table.now c.enter_unary.new.table) (sym c.in-Unary.is) (c.enter_unary.ensures i base pieces h all)

pub returns-in-Binary : goal.returns-in-Binary
returns-in-Binary c = λ i base pieces h all.
    subst (λ (n : CodeNode). Gains i (entries (base + i) pieces n (λ s. is_in c.args.states s i)) c.args.table.now c.enter_binary.new.table) (sym c.in-Binary.is) (c.enter_binary.ensures i base pieces h all)

pub returns-in-If : goal.returns-in-If
returns-in-If c = λ i base pieces h all.
    subst (λ (n : CodeNode). Gains i (entries (base + i) pieces n (λ s. is_in c.args.states s i)) c.args.table.now c.enter_branches.new.table) (sym c.in-If.is) (c.enter_branches.ensures i base pieces h all)

pub returns-in-Many : goal.returns-in-Many
returns-in-Many c = λ i base pieces h all.
    subst (λ (n : CodeNode). Gains i (entries (base + i) pieces n (λ s. is_in c.args.states s i)) c.args.table.now c.enter_many.new.table) (sym c.in-Many.is)
    (subst (λ (xs : List ℕ). Gains i (many_entries (base + i) pieces c.in-Many.form xs (λ s. is_in c.args.states s i)) c.args.table.now c.enter_many.new.table) c.as_slice.ensures (c.enter_many.ensures i base pieces h all))
