use Rattle.std.proofs.Common.{◌≡◌, ◌≤◌, length, take, sym, ap, ◌∙◌, subst}
use Rattle.std.specs.Prelude.{slice_get}
use Rattle.tableau.proofs.StateLemmas.{nearer, taken_more, all_taken, shared_taken}
use Rattle.tableau.proofs.state.BranchState.follow_entries.Goals as goal

pub loop-entry-init : goal.loop-entry-init
loop-entry-init c = (
  c.leave.ensures.state c.args.pool.now c.requires.state,
  shared_taken c.args.self.now.entries.items c.args.branch.now.entries c.leave.new.state.entries.items c.shared-kept.result (subst (λ xs. c.shared-kept.result ≤ length xs) c.as_slice.ensures.value c.shared-kept.ensures.within) (subst (λ xs. take c.shared-kept.result xs ≡ take c.shared-kept.result c.args.branch.now.entries) c.as_slice.ensures.value c.shared-kept.ensures.same) c.leave.ensures.entries,
)

pub loop-entry-smaller : goal.loop-entry-smaller
loop-entry-smaller c =
    nearer c.loop-entry.self.entries.items c.args.branch.now.entries c.enter.new.state.entries.items c.in-Some.entry (ap (slice_get c.args.branch.now.entries) (sym (c.len.ensures ∙ c.loop-entry.self.entries.ok.0)) ∙ sym c.in-Some.ensures) c.in_ok-enter.ensures.entries

pub loop-entry-preserved : goal.loop-entry-preserved
loop-entry-preserved c =
    (c.in_ok-enter.ensures.state c.args.pool.now c.loop-entry.invariant.0 (c.requires.over.formulas c.len.result c.in-Some.entry (sym c.in-Some.ensures)), taken_more c.loop-entry.self.entries.items c.args.branch.now.entries c.enter.new.state.entries.items c.in-Some.entry c.loop-entry.invariant.1 (ap (slice_get c.args.branch.now.entries) (sym (c.len.ensures ∙ c.loop-entry.self.entries.ok.0)) ∙ sym c.in-Some.ensures) c.in_ok-enter.ensures.entries)

pub returns-clause-follows : goal.returns-clause-follows
returns-clause-follows c = record {
  entries = all_taken c.loop-entry.self.entries.items c.args.branch.now.entries c.loop-entry.invariant.1 (sym c.in_default.is ∙ c.entry.ensures ∙ ap (slice_get c.args.branch.now.entries) (c.len.ensures ∙ c.loop-entry.self.entries.ok.0));
}
