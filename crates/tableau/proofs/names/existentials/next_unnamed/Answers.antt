use Rattle.std.proofs.Common.{arith}
use Rattle.tableau.specs.PoolBranches.{branch_in}
use Rattle.tableau.proofs.UnnamedLemmas.{before_more, before_all}
use Rattle.tableau.proofs.names.existentials.next_unnamed.Goals as goal

pub loop-i-preserved : goal.loop-i-preserved
loop-i-preserved c = before_more (branch_in c.args.pool.now c.args.branch.now) c.loop-i.i c.loop-i.invariant c.in_default.ensures

pub returns : goal.returns
returns c = before_all c.args.pool.now c.args.branch.now c.loop-i.i (omega (arith, c.len-i-end.ensures, c.loop-i-test.false)) c.loop-i.invariant
