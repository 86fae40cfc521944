use Rattle.std.proofs.Common.{List, get_or, take, sym, subst}
use Rattle.std.proofs.lemmas.List.{take_more, take_all}
use Rattle.base.specs.Lists.{list_in}
use Rattle.term_pool.proofs.GrowthLemmas.{extends_itself, extends_then}
use Rattle.tableau.specs.PoolBranches.{branch_in}
use Rattle.axiom_strategy.specs.Orders.{IsWith, IsInGroup, NoneFresh}
use Rattle.axiom_strategy.specs.declared.decisions.positions.Position.{Position}
use Rattle.axiom_strategy.proofs.GrownLemmas.{over_grown, classes_grown}
use Rattle.axiom_strategy.proofs.OrderLemmas.{groups_begun, groups_more, with_in_group, pair_wider, of_branch_narrower, of_branch_after, none_before, pair_before}
use Rattle.axiom_strategy.proofs.decisions.orders.order_in_groups.Goals as goal

abbrev no_position : Position
no_position = record { group = 0; term = 0 }

pub loop-position-init : goal.loop-position-init
loop-position-init c = record { extends = extends_itself c.args.pool.now; none = groups_begun c.args.pool.now (branch_in c.args.pool.now c.args.branch.now) c.args.by_group.now }

pub order_with-requires-clause-over : goal.order_with-requires-clause-over
order_with-requires-clause-over c = over_grown c.args.pool.now c.loop-position.pool c.loop-position.invariant.extends c.args.branch.now c.requires.over

pub order_with-requires-clause-classes : goal.order_with-requires-clause-classes
order_with-requires-clause-classes c = classes_grown c.args.pool.now c.loop-position.pool c.loop-position.invariant.extends c.args.branch.now c.requires.over c.args.classes.now c.requires.classes

pub order_with-requires-clause-pairs : goal.order_with-requires-clause-pairs
order_with-requires-clause-pairs c =
    let all = c.args.all.now in
    let lists = c.args.by_group.now in
    let p = get_or all c.loop-position.position-index no_position in
    rw c.at-others.ensures
    (of_branch_after c.args.pool.now c.loop-position.pool c.loop-position.invariant.extends c.args.branch.now c.requires.over (IsWith p.term (list_in lists p.group))
    (of_branch_narrower c.args.pool.now (branch_in c.args.pool.now c.args.branch.now) (IsWith p.term (list_in lists p.group)) (IsInGroup all lists) (with_in_group all lists c.loop-position.position-index no_position c.loop-position-test.true) c.requires.pairs))

pub returns-in-Some-clause-extends : goal.returns-in-Some-clause-extends
returns-in-Some-clause-extends c = extends_then c.loop-position.invariant.extends c.order_with.ensures.extends

pub returns-in-Some-clause-due : goal.returns-in-Some-clause-due
returns-in-Some-clause-due c =
    let ns = c.args.pool.now in
    let b = branch_in c.args.pool.now c.args.branch.now in
    let all = c.args.all.now in
    let lists = c.args.by_group.now in
    let p = get_or all c.loop-position.position-index no_position in
    let wider = with_in_group all lists c.loop-position.position-index no_position c.loop-position-test.true in
    pair_wider ns c.order_with.new.pool b (IsWith p.term (list_in lists p.group)) (IsInGroup all lists) c.in-Some.step wider
    (pair_before ns c.loop-position.pool c.loop-position.invariant.extends c.args.branch.now c.requires.over (IsWith p.term (list_in lists p.group)) c.order_with.new.pool c.in-Some.step
    (of_branch_narrower ns b (IsWith p.term (list_in lists p.group)) (IsInGroup all lists) wider c.requires.pairs)
    (rw c.at-others.ensures at (rw c.in-Some.is at c.in_ok-step.ensures.due)))

pub loop-position-preserved : goal.loop-position-preserved
loop-position-preserved c =
    let ns = c.args.pool.now in
    let b = branch_in c.args.pool.now c.args.branch.now in
    let all = c.args.all.now in
    let lists = c.args.by_group.now in
    let p = get_or all c.loop-position.position-index no_position in
    let wider = with_in_group all lists c.loop-position.position-index no_position c.loop-position-test.true in
    record {
      extends = extends_then c.loop-position.invariant.extends c.order_with.ensures.extends;
      none = subst (λ (xs : List Position). NoneFresh ns b (IsInGroup xs lists)) (sym (take_more all c.loop-position.position-index no_position c.loop-position-test.true))
          (groups_more ns b lists (take c.loop-position.position-index all) p c.loop-position.invariant.none
          (none_before ns c.loop-position.pool c.loop-position.invariant.extends c.args.branch.now c.requires.over (IsWith p.term (list_in lists p.group))
          (of_branch_narrower ns b (IsWith p.term (list_in lists p.group)) (IsInGroup all lists) wider c.requires.pairs)
          (rw c.at-others.ensures at (rw c.in_default.is at c.in_ok-step.ensures.due))));
    }

pub returns-clause-due : goal.returns-clause-due
returns-clause-due c =
    subst (λ (xs : List Position). NoneFresh c.args.pool.now (branch_in c.args.pool.now c.args.branch.now) (IsInGroup xs c.args.by_group.now)) (take_all c.loop-position.position-index c.args.all.now c.loop-position-test.false) c.loop-position.invariant.none
