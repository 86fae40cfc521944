use Rattle.std.proofs.Common.{get_or}
use Rattle.base.specs.Lists.{list_in}
use Rattle.term_pool.proofs.GrowthLemmas.{extends_itself, extends_then}
use Rattle.tableau.specs.PoolBranches.{branch_in}
use Rattle.axiom_strategy.specs.Orders.{IsWith, IsInGroup}
use Rattle.axiom_strategy.specs.declared.decisions.positions.Position.{Position}
use Rattle.axiom_strategy.proofs.GrownLemmas.{over_grown, classes_grown}
use Rattle.axiom_strategy.proofs.OrderLemmas.{with_in_group, pair_wider, of_branch_narrower, of_branch_after, pair_before}
use Rattle.axiom_strategy.proofs.decisions.equal_orders.equal_in_groups.Goals as goal

abbrev no_position : Position
no_position = record { group = 0; term = 0 }

pub loop-position-init : goal.loop-position-init
loop-position-init c = extends_itself c.args.pool.now

pub equal_with-requires-clause-over : goal.equal_with-requires-clause-over
equal_with-requires-clause-over c = over_grown c.args.pool.now c.loop-position.pool c.loop-position.invariant c.args.branch.now c.requires.over

pub equal_with-requires-clause-classes : goal.equal_with-requires-clause-classes
equal_with-requires-clause-classes c = classes_grown c.args.pool.now c.loop-position.pool c.loop-position.invariant c.args.branch.now c.requires.over c.args.classes.now c.requires.classes

pub equal_with-requires-clause-pairs : goal.equal_with-requires-clause-pairs
equal_with-requires-clause-pairs c =
    let all = c.args.all.now in
    let lists = c.args.by_group.now in
    let p = get_or all c.loop-position.position-index no_position in
    rw c.at-others.ensures
    (of_branch_after c.args.pool.now c.loop-position.pool c.loop-position.invariant c.args.branch.now c.requires.over (IsWith p.term (list_in lists p.group))
    (of_branch_narrower c.args.pool.now (branch_in c.args.pool.now c.args.branch.now) (IsWith p.term (list_in lists p.group)) (IsInGroup all lists) (with_in_group all lists c.loop-position.position-index no_position c.loop-position-test.true) c.requires.pairs))

pub returns-in-Some-clause-extends : goal.returns-in-Some-clause-extends
returns-in-Some-clause-extends c = extends_then c.loop-position.invariant c.equal_with.ensures.extends

pub returns-in-Some-clause-due : goal.returns-in-Some-clause-due
returns-in-Some-clause-due c =
    let ns = c.args.pool.now in
    let b = branch_in c.args.pool.now c.args.branch.now in
    let all = c.args.all.now in
    let lists = c.args.by_group.now in
    let p = get_or all c.loop-position.position-index no_position in
    let wider = with_in_group all lists c.loop-position.position-index no_position c.loop-position-test.true in
    pair_wider ns c.equal_with.new.pool b (IsWith p.term (list_in lists p.group)) (IsInGroup all lists) c.in-Some.step wider
    (pair_before ns c.loop-position.pool c.loop-position.invariant c.args.branch.now c.requires.over (IsWith p.term (list_in lists p.group)) c.equal_with.new.pool c.in-Some.step
    (of_branch_narrower ns b (IsWith p.term (list_in lists p.group)) (IsInGroup all lists) wider c.requires.pairs)
    (rw c.at-others.ensures at (rw c.in-Some.is at c.in_ok-found.ensures.due)))

pub loop-position-preserved : goal.loop-position-preserved
loop-position-preserved c = extends_then c.loop-position.invariant c.equal_with.ensures.extends
