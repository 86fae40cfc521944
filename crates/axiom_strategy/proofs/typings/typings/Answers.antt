use Rattle.std.proofs.Common.{◌≡◌, length, subst, arith}
use Rattle.tableau.specs.PoolBranches.{branch_in}
use Rattle.axiom_strategy.specs.Typings.{AreTypings}
use Rattle.axiom_strategy.proofs.TypingLemmas.{typings_none}
use Rattle.axiom_strategy.proofs.typings.typings.Goals as goal

pub loop-i-init : goal.loop-i-init
loop-i-init c = rw c.new-typings.ensures.items (typings_none c.args.pool.now (branch_in c.args.pool.now c.args.branch.now))

pub loop-i-preserved : goal.loop-i-preserved
loop-i-preserved c = c.in_ok-add_typing.ensures

pub returns : goal.returns
returns c =
    let all : c.loop-i.i ≡ length c.args.branch.now.entries = omega (arith, c.len-i-end.ensures, c.loop-i-test.false, c.loop-i.auto.i-end) in
    subst (λ n. AreTypings c.args.pool.now (branch_in c.args.pool.now c.args.branch.now) n c.loop-i.typings.items) all c.loop-i.invariant
