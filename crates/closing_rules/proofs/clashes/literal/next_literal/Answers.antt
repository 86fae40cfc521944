use Rattle.std.proofs.Common.{arith}
use Rattle.tableau.specs.PoolBranches.{branch_in}
use Rattle.closing_rules.proofs.LiteralLemmas.{none_literal, one_more, not_literal}
use Rattle.closing_rules.proofs.clashes.literal.next_literal.Goals as goal

pub loop-i-init : goal.loop-i-init
loop-i-init c = none_literal (branch_in c.args.pool.now c.args.branch.now)

pub loop-i-preserved : goal.loop-i-preserved
loop-i-preserved c = one_more (branch_in c.args.pool.now c.args.branch.now) c.loop-i.i c.loop-i.invariant c.in_default.ensures

pub returns : goal.returns
returns c = not_literal c.args.pool.now c.args.branch.now c.loop-i.i (omega (arith, c.len-i-end.ensures, c.loop-i-test.false)) c.loop-i.invariant
