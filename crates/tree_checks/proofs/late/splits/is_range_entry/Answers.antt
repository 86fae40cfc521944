use Rattle.std.proofs.Common.{sym}
use Rattle.tree_checks.proofs.ApplicationLemmas.{no_range_entry, range_known}
use Rattle.tree_checks.proofs.late.splits.is_range_entry.Goals as goal

pub returns-in_default-clause-exact : goal.returns-in_default-clause-exact
returns-in_default-clause-exact c = no_range_entry c.args.pool.now c.args.branch.now c.args.i (sym c.in_default.ensures)

pub is_range-requires-clause-formula : goal.is_range-requires-clause-formula
is_range-requires-clause-formula c = c.requires.over.formulas c.args.i c.in-Some.entry (sym c.in-Some.ensures)

pub is_range-requires-clause-known : goal.is_range-requires-clause-known
is_range-requires-clause-known c = c.new-known.ensures c.args.shapes.now c.args.pool.now

pub returns-clause-exact : goal.returns-clause-exact
returns-clause-exact c = range_known c.args.pool.now c.args.branch.now c.args.i c.in-Some.entry (sym c.in-Some.ensures) c.in_ok-given.given c.in_ok-given.ensures.is
