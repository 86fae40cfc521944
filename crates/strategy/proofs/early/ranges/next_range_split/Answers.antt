use Rattle.std.proofs.Common.{arith}
use Rattle.term_pool.proofs.GrowthLemmas.{extends_then}
use Rattle.tableau.specs.PoolBranches.{branch_in}
use Rattle.tableau.proofs.EntryLemmas.{still_over}
use Rattle.strategy.proofs.RangeLemmas.{before_grown, before_more, before_all}
use Rattle.strategy.proofs.early.ranges.next_range_split.Goals as goal

pub range_cases_at-requires-clause-over : goal.range_cases_at-requires-clause-over
range_cases_at-requires-clause-over c = still_over c.args.pool.now c.loop-i.pool c.loop-i.invariant.extends c.args.branch.now c.requires.over

pub returns-in-Some-clause-due : goal.returns-in-Some-clause-due
returns-in-Some-clause-due c = record {
  split = rw c.in-Some.is at c.in_ok-formulas.ensures.due;
  first = before_grown c.loop-i.pool c.range_cases_at.new.pool c.range_cases_at.ensures.extends c.args.branch.now (still_over c.args.pool.now c.loop-i.pool c.loop-i.invariant.extends c.args.branch.now c.requires.over) c.loop-i.i c.loop-i.invariant.before;
}

pub loop-i-preserved : goal.loop-i-preserved
loop-i-preserved c = record {
  extends = extends_then c.loop-i.invariant.extends c.range_cases_at.ensures.extends;
  known = c.in_ok-formulas.ensures.known;
  before = before_more (branch_in c.range_cases_at.new.pool c.args.branch.now) c.loop-i.i (before_grown c.loop-i.pool c.range_cases_at.new.pool c.range_cases_at.ensures.extends c.args.branch.now (still_over c.args.pool.now c.loop-i.pool c.loop-i.invariant.extends c.args.branch.now c.requires.over) c.loop-i.i c.loop-i.invariant.before) (rw c.in_default.is at c.in_ok-formulas.ensures.due);
}

pub returns-clause-due : goal.returns-clause-due
returns-clause-due c = before_all c.loop-i.pool c.args.branch.now c.loop-i.i (omega (arith, c.len-i-end.ensures, c.loop-i-test.false)) c.loop-i.invariant.before
