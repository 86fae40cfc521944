use Rattle.std.proofs.Common.{get_or, refl}
use Rattle.std.proofs.lemmas.List.Elements.{Contains-get_or}
use Rattle.term_pool.proofs.GrowthLemmas.{extends_itself, extends_then}
use Rattle.axiom_strategy.proofs.GrownLemmas.{over_grown, classes_grown, branch_term_grown}
use Rattle.axiom_strategy.proofs.OrderLemmas.{step_before}
use Rattle.axiom_strategy.proofs.decisions.equal_orders.equal_with.Goals as goal

pub loop-right-init : goal.loop-right-init
loop-right-init c = extends_itself c.args.pool.now

pub fresh_order-requires-clause-over : goal.fresh_order-requires-clause-over
fresh_order-requires-clause-over c = over_grown c.args.pool.now c.loop-right.pool c.loop-right.invariant c.args.branch.now c.requires.over

pub fresh_order-requires-clause-classes : goal.fresh_order-requires-clause-classes
fresh_order-requires-clause-classes c = classes_grown c.args.pool.now c.loop-right.pool c.loop-right.invariant c.args.branch.now c.requires.over c.args.classes.now c.requires.classes

pub fresh_order-requires-clause-left : goal.fresh_order-requires-clause-left
fresh_order-requires-clause-left c =
    let n = get_or c.args.others.now c.loop-right.right-index 0 in
    let both = c.requires.pairs.each c.args.left n (record { is_left = refl; among = Contains-get_or c.args.others.now c.loop-right.right-index 0 c.loop-right-test.true }) in
    branch_term_grown c.args.pool.now c.loop-right.pool c.loop-right.invariant c.args.branch.now c.requires.over c.args.left both.0

pub fresh_order-requires-clause-right : goal.fresh_order-requires-clause-right
fresh_order-requires-clause-right c =
    let n = get_or c.args.others.now c.loop-right.right-index 0 in
    let both = c.requires.pairs.each c.args.left n (record { is_left = refl; among = Contains-get_or c.args.others.now c.loop-right.right-index 0 c.loop-right-test.true }) in
    branch_term_grown c.args.pool.now c.loop-right.pool c.loop-right.invariant c.args.branch.now c.requires.over n both.1

pub returns-in-Some-clause-extends : goal.returns-in-Some-clause-extends
returns-in-Some-clause-extends c = extends_then c.loop-right.invariant c.fresh_order.ensures.extends

pub returns-in-Some-clause-due : goal.returns-in-Some-clause-due
returns-in-Some-clause-due c =
    let n = get_or c.args.others.now c.loop-right.right-index 0 in
    let both = c.requires.pairs.each c.args.left n (record { is_left = refl; among = Contains-get_or c.args.others.now c.loop-right.right-index 0 c.loop-right-test.true }) in
    record {
      left = c.args.left;
      right = n;
      is_pair = record { is_left = refl; among = Contains-get_or c.args.others.now c.loop-right.right-index 0 c.loop-right-test.true };
      is_step = step_before c.args.pool.now c.loop-right.pool c.loop-right.invariant c.args.branch.now c.requires.over c.fresh_order.new.pool c.in-Some.step c.args.left n both.0.number both.1.number (rw c.in-Some.is at c.in_ok-step.ensures.due);
    }

pub loop-right-preserved : goal.loop-right-preserved
loop-right-preserved c = extends_then c.loop-right.invariant c.fresh_order.ensures.extends
