use Rattle.std.proofs.Common.{sym, subst, arith}
use Rattle.tableau.specs.PoolBranches.{branch_in}
use Rattle.axiom_strategy.proofs.OrderLemmas.{ArePairsBefore, pairs_begun, pairs_same, pairs_more, pairs_done}
use Rattle.axiom_strategy.proofs.decisions.orders.denied_pairs.Goals as goal

pub loop-i-init : goal.loop-i-init
loop-i-init c =
    let b = branch_in c.args.pool.now c.args.branch.now in
    subst (ArePairsBefore c.args.pool.now b 0) (sym c.new-pairs.ensures.items) (pairs_begun c.args.pool.now b)

pub loop-i-preserved-in_default : goal.loop-i-preserved-in_default
loop-i-preserved-in_default c = pairs_same c.args.pool.now (branch_in c.args.pool.now c.args.branch.now) c.loop-i.i c.loop-i.pairs.items c.loop-i.invariant c.in_default.ensures

pub loop-i-preserved : goal.loop-i-preserved
loop-i-preserved c = rw c.in_ok-push.ensures.items (pairs_more c.args.pool.now c.one_number.ensures c.args.branch.now c.requires.over c.loop-i.i c.loop-i.pairs.items c.in-Some.pair c.loop-i.invariant c.in-Some.ensures)

pub returns : goal.returns
returns c = pairs_done c.args.pool.now c.one_number.ensures c.args.branch.now c.requires.over c.loop-i.i c.loop-i.pairs.items (omega (arith, c.len-i-end.ensures, c.loop-i-test.false)) c.loop-i.invariant
