use Rattle.std.proofs.Common.{ℕ, List, get_or, take, refl, sym, subst}
use Rattle.std.proofs.lemmas.List.{take_more, take_all}
use Rattle.std.proofs.lemmas.List.Elements.{Contains-get_or}
use Rattle.term_pool.proofs.GrowthLemmas.{extends_itself, extends_then}
use Rattle.tableau.specs.PoolBranches.{branch_in}
use Rattle.axiom_strategy.specs.Orders.{IsWith, NoneFresh}
use Rattle.axiom_strategy.proofs.GrownLemmas.{over_grown, classes_grown, branch_term_grown}
use Rattle.axiom_strategy.proofs.OrderLemmas.{with_begun, with_more, not_before, step_before}
use Rattle.axiom_strategy.proofs.decisions.orders.order_with.Goals as goal

pub loop-right-init : goal.loop-right-init
loop-right-init c = record { extends = extends_itself c.args.pool.now; none = with_begun c.args.pool.now (branch_in c.args.pool.now c.args.branch.now) c.args.left }

pub fresh_order-requires-clause-over : goal.fresh_order-requires-clause-over
fresh_order-requires-clause-over c = over_grown c.args.pool.now c.loop-right.pool c.loop-right.invariant.extends c.args.branch.now c.requires.over

pub fresh_order-requires-clause-classes : goal.fresh_order-requires-clause-classes
fresh_order-requires-clause-classes c = classes_grown c.args.pool.now c.loop-right.pool c.loop-right.invariant.extends c.args.branch.now c.requires.over c.args.classes.now c.requires.classes

pub fresh_order-requires-clause-left : goal.fresh_order-requires-clause-left
fresh_order-requires-clause-left c =
    let n = get_or c.args.others.now c.loop-right.right-index 0 in
    let both = c.requires.pairs.each c.args.left n (record { is_left = refl; among = Contains-get_or c.args.others.now c.loop-right.right-index 0 c.loop-right-test.true }) in
    branch_term_grown c.args.pool.now c.loop-right.pool c.loop-right.invariant.extends c.args.branch.now c.requires.over c.args.left both.0

pub fresh_order-requires-clause-right : goal.fresh_order-requires-clause-right
fresh_order-requires-clause-right c =
    let n = get_or c.args.others.now c.loop-right.right-index 0 in
    let both = c.requires.pairs.each c.args.left n (record { is_left = refl; among = Contains-get_or c.args.others.now c.loop-right.right-index 0 c.loop-right-test.true }) in
    branch_term_grown c.args.pool.now c.loop-right.pool c.loop-right.invariant.extends c.args.branch.now c.requires.over n both.1

pub returns-in-Some-clause-extends : goal.returns-in-Some-clause-extends
returns-in-Some-clause-extends c = extends_then c.loop-right.invariant.extends c.fresh_order.ensures.extends

pub returns-in-Some-clause-due : goal.returns-in-Some-clause-due
returns-in-Some-clause-due c =
    let n = get_or c.args.others.now c.loop-right.right-index 0 in
    let both = c.requires.pairs.each c.args.left n (record { is_left = refl; among = Contains-get_or c.args.others.now c.loop-right.right-index 0 c.loop-right-test.true }) in
    record {
      left = c.args.left;
      right = n;
      is_pair = record { is_left = refl; among = Contains-get_or c.args.others.now c.loop-right.right-index 0 c.loop-right-test.true };
      is_step = step_before c.args.pool.now c.loop-right.pool c.loop-right.invariant.extends c.args.branch.now c.requires.over c.fresh_order.new.pool c.in-Some.step c.args.left n both.0.number both.1.number (rw c.in-Some.is at c.in_ok-step.ensures.due);
    }

pub loop-right-preserved : goal.loop-right-preserved
loop-right-preserved c =
    let ns = c.args.pool.now in
    let b = branch_in c.args.pool.now c.args.branch.now in
    let n = get_or c.args.others.now c.loop-right.right-index 0 in
    let both = c.requires.pairs.each c.args.left n (record { is_left = refl; among = Contains-get_or c.args.others.now c.loop-right.right-index 0 c.loop-right-test.true }) in
    record {
      extends = extends_then c.loop-right.invariant.extends c.fresh_order.ensures.extends;
      none = subst (λ (xs : List ℕ). NoneFresh ns b (IsWith c.args.left xs)) (sym (take_more c.args.others.now c.loop-right.right-index 0 c.loop-right-test.true))
          (with_more ns b c.args.left n (take c.loop-right.right-index c.args.others.now) c.loop-right.invariant.none
          (not_before ns c.loop-right.pool c.loop-right.invariant.extends c.args.branch.now c.requires.over c.args.left n both.0.number both.1.number (rw c.in_default.is at c.in_ok-step.ensures.due)));
    }

pub returns-clause-due : goal.returns-clause-due
returns-clause-due c =
    subst (λ (xs : List ℕ). NoneFresh c.args.pool.now (branch_in c.args.pool.now c.args.branch.now) (IsWith c.args.left xs)) (take_all c.loop-right.right-index c.args.others.now c.loop-right-test.false) c.loop-right.invariant.none
