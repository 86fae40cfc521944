use Rattle.term_pool.proofs.GrowthLemmas.{extends_then}
use Rattle.axiom_strategy.specs.Orders.{IsInGroup}
use Rattle.axiom_strategy.proofs.GrownLemmas.{over_grown, classes_grown}
use Rattle.axiom_strategy.proofs.OrderLemmas.{of_branch_after, pairs_of_branch, groups_of_branch, first_answer, last_answer}
use Rattle.axiom_strategy.proofs.decisions.orders.next_order.Goals as goal

pub denied_pairs-requires-clause-numbers : goal.denied_pairs-requires-clause-numbers
denied_pairs-requires-clause-numbers c = rw c.as_slice-marks.ensures.value c.in_ok-numbers.ensures

pub number_positions-requires-clause-numbers : goal.number_positions-requires-clause-numbers
number_positions-requires-clause-numbers c = rw c.as_slice-marks.ensures.value c.in_ok-numbers.ensures

pub order_of_pairs-requires-clause-pairs : goal.order_of_pairs-requires-clause-pairs
order_of_pairs-requires-clause-pairs c =
    rw c.as_slice.ensures.value (pairs_of_branch c.args.pool.now c.one_number.ensures c.args.branch.now c.requires.over c.in_ok-pairs.pairs.items c.in_ok-pairs.ensures c.in_ok-positions.positions.all.items c.in_ok-positions.positions.by_group c.in_ok-positions.ensures)

pub returns-in-Some-clause-due : goal.returns-in-Some-clause-due
returns-in-Some-clause-due c =
    first_answer c.args.pool.now c.one_number.ensures c.args.branch.now c.requires.over c.in_ok-pairs.pairs.items c.in_ok-pairs.ensures c.in_ok-positions.positions.all.items c.in_ok-positions.positions.by_group c.in_ok-positions.ensures c.order_of_pairs.new.pool c.order_of_pairs.ensures.extends c.in-Some.step (rw c.as_slice.ensures.value at (rw c.in-Some.is at c.in_ok-step.ensures.due))

pub order_in_groups-requires-clause-over : goal.order_in_groups-requires-clause-over
order_in_groups-requires-clause-over c = over_grown c.args.pool.now c.order_of_pairs.new.pool c.order_of_pairs.ensures.extends c.args.branch.now c.requires.over

pub order_in_groups-requires-clause-classes : goal.order_in_groups-requires-clause-classes
order_in_groups-requires-clause-classes c = classes_grown c.args.pool.now c.order_of_pairs.new.pool c.order_of_pairs.ensures.extends c.args.branch.now c.requires.over c.args.classes.now c.requires.classes

pub order_in_groups-requires-clause-pairs : goal.order_in_groups-requires-clause-pairs
order_in_groups-requires-clause-pairs c =
    rw c.as_slice-all.ensures.value (of_branch_after c.args.pool.now c.order_of_pairs.new.pool c.order_of_pairs.ensures.extends c.args.branch.now c.requires.over (IsInGroup c.in_ok-positions.positions.all.items c.in_ok-positions.positions.by_group)
    (groups_of_branch c.args.pool.now c.args.branch.now c.requires.over c.in_ok-positions.positions.all.items c.in_ok-positions.positions.by_group c.in_ok-positions.ensures))

pub returns-clause-extends : goal.returns-clause-extends
returns-clause-extends c = extends_then c.order_of_pairs.ensures.extends c.order_in_groups.ensures.extends

pub returns-clause-due : goal.returns-clause-due
returns-clause-due c =
    last_answer c.args.pool.now c.one_number.ensures c.args.branch.now c.requires.over c.in_ok-pairs.pairs.items c.in_ok-pairs.ensures c.in_ok-positions.positions.all.items c.in_ok-positions.positions.by_group c.in_ok-positions.ensures c.order_of_pairs.new.pool c.order_in_groups.new.pool c.order_of_pairs.ensures.extends c.order_in_groups.ensures.extends (rw c.as_slice.ensures.value at (rw c.in_default.is at c.in_ok-step.ensures.due)) c.order_in_groups.result (rw c.as_slice-all.ensures.value at c.order_in_groups.ensures.due)
