use Rattle.std.proofs.Common.{ℕ, List, get_or, take, sym, subst}
use Rattle.std.proofs.lemmas.List.{take_more, take_all}
use Rattle.std.proofs.lemmas.List.Elements.{Contains-get_or}
use Rattle.term_pool.proofs.GrowthLemmas.{extends_itself, extends_then}
use Rattle.tableau.specs.PoolBranches.{branch_in}
use Rattle.axiom_strategy.specs.Orders.{IsListed, NoneFresh}
use Rattle.axiom_strategy.proofs.GrownLemmas.{over_grown, classes_grown, branch_term_grown}
use Rattle.axiom_strategy.proofs.OrderLemmas.{listed_begun, listed_more, not_before, step_before}
use Rattle.axiom_strategy.proofs.decisions.orders.order_of_pairs.Goals as goal

pub loop-pair-init : goal.loop-pair-init
loop-pair-init c = record { extends = extends_itself c.args.pool.now; none = listed_begun c.args.pool.now (branch_in c.args.pool.now c.args.branch.now) }

pub fresh_order-requires-clause-over : goal.fresh_order-requires-clause-over
fresh_order-requires-clause-over c = over_grown c.args.pool.now c.loop-pair.pool c.loop-pair.invariant.extends c.args.branch.now c.requires.over

pub fresh_order-requires-clause-classes : goal.fresh_order-requires-clause-classes
fresh_order-requires-clause-classes c = classes_grown c.args.pool.now c.loop-pair.pool c.loop-pair.invariant.extends c.args.branch.now c.requires.over c.args.classes.now c.requires.classes

pub fresh_order-requires-clause-left : goal.fresh_order-requires-clause-left
fresh_order-requires-clause-left c =
    let p = get_or c.args.pairs.now c.loop-pair.pair-index (0, 0) in
    let both = c.requires.pairs.each p.0 p.1 (record { among = Contains-get_or c.args.pairs.now c.loop-pair.pair-index (0, 0) c.loop-pair-test.true }) in
    branch_term_grown c.args.pool.now c.loop-pair.pool c.loop-pair.invariant.extends c.args.branch.now c.requires.over p.0 both.0

pub fresh_order-requires-clause-right : goal.fresh_order-requires-clause-right
fresh_order-requires-clause-right c =
    let p = get_or c.args.pairs.now c.loop-pair.pair-index (0, 0) in
    let both = c.requires.pairs.each p.0 p.1 (record { among = Contains-get_or c.args.pairs.now c.loop-pair.pair-index (0, 0) c.loop-pair-test.true }) in
    branch_term_grown c.args.pool.now c.loop-pair.pool c.loop-pair.invariant.extends c.args.branch.now c.requires.over p.1 both.1

pub returns-in-Some-clause-extends : goal.returns-in-Some-clause-extends
returns-in-Some-clause-extends c = extends_then c.loop-pair.invariant.extends c.fresh_order.ensures.extends

pub returns-in-Some-clause-due : goal.returns-in-Some-clause-due
returns-in-Some-clause-due c =
    let p = get_or c.args.pairs.now c.loop-pair.pair-index (0, 0) in
    let both = c.requires.pairs.each p.0 p.1 (record { among = Contains-get_or c.args.pairs.now c.loop-pair.pair-index (0, 0) c.loop-pair-test.true }) in
    record {
      left = p.0;
      right = p.1;
      is_pair = record { among = Contains-get_or c.args.pairs.now c.loop-pair.pair-index (0, 0) c.loop-pair-test.true };
      is_step = step_before c.args.pool.now c.loop-pair.pool c.loop-pair.invariant.extends c.args.branch.now c.requires.over c.fresh_order.new.pool c.in-Some.step p.0 p.1 both.0.number both.1.number (rw c.in-Some.is at c.in_ok-step.ensures.due);
    }

pub loop-pair-preserved : goal.loop-pair-preserved
loop-pair-preserved c =
    let ns = c.args.pool.now in
    let b = branch_in c.args.pool.now c.args.branch.now in
    let p = get_or c.args.pairs.now c.loop-pair.pair-index (0, 0) in
    let both = c.requires.pairs.each p.0 p.1 (record { among = Contains-get_or c.args.pairs.now c.loop-pair.pair-index (0, 0) c.loop-pair-test.true }) in
    record {
      extends = extends_then c.loop-pair.invariant.extends c.fresh_order.ensures.extends;
      none = subst (λ (xs : List (ℕ × ℕ)). NoneFresh ns b (IsListed xs)) (sym (take_more c.args.pairs.now c.loop-pair.pair-index (0, 0) c.loop-pair-test.true))
          (listed_more ns b (take c.loop-pair.pair-index c.args.pairs.now) p c.loop-pair.invariant.none
          (not_before ns c.loop-pair.pool c.loop-pair.invariant.extends c.args.branch.now c.requires.over p.0 p.1 both.0.number both.1.number (rw c.in_default.is at c.in_ok-step.ensures.due)));
    }

pub returns-clause-due : goal.returns-clause-due
returns-clause-due c =
    subst (λ (xs : List (ℕ × ℕ)). NoneFresh c.args.pool.now (branch_in c.args.pool.now c.args.branch.now) (IsListed xs)) (take_all c.loop-pair.pair-index c.args.pairs.now c.loop-pair-test.false) c.loop-pair.invariant.none
