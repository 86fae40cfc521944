use Rattle.std.proofs.Common.{sym, ap, ◌∙◌}
use Rattle.std.specs.Prelude.{slice_get}
use Rattle.tableau.proofs.StateLemmas.{nearer, taken_more, all_taken, classes_followed}
use Rattle.tableau.proofs.state.BranchState.follow_classes.Goals as goal

pub enter_classes-requires-clause-formula : goal.enter_classes-requires-clause-formula
enter_classes-requires-clause-formula c = c.requires.over.formulas c.len.result c.in-Some.entry (sym c.in-Some.ensures)

pub loop-entry-smaller : goal.loop-entry-smaller
loop-entry-smaller c =
    nearer c.loop-entry.self.classed.items c.args.branch.now.entries c.enter_classes.new.state.classed.items c.in-Some.entry (ap (slice_get c.args.branch.now.entries) (sym (c.len.ensures ∙ c.loop-entry.self.classed.ok.0)) ∙ sym c.in-Some.ensures) c.in_ok-enter_classes.ensures.classed

pub loop-entry-preserved : goal.loop-entry-preserved
loop-entry-preserved c =
    (c.in_ok-enter_classes.ensures.state, taken_more c.loop-entry.self.classed.items c.args.branch.now.entries c.enter_classes.new.state.classed.items c.in-Some.entry c.loop-entry.invariant.1 (ap (slice_get c.args.branch.now.entries) (sym (c.len.ensures ∙ c.loop-entry.self.classed.ok.0)) ∙ sym c.in-Some.ensures) c.in_ok-enter_classes.ensures.classed, c.enter_classes.ensures.entries ∙ c.loop-entry.invariant.2)

pub returns-clause-classes : goal.returns-clause-classes
returns-clause-classes c =
    classes_followed c.args.pool.now c.args.branch.now c.loop-entry.self c.loop-entry.invariant.0 (all_taken c.loop-entry.self.classed.items c.args.branch.now.entries c.loop-entry.invariant.1 (sym c.in_default.is ∙ c.entry.ensures ∙ ap (slice_get c.args.branch.now.entries) (c.len.ensures ∙ c.loop-entry.self.classed.ok.0)))
