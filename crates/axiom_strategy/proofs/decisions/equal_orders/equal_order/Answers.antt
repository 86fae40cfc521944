use Rattle.axiom_strategy.proofs.OrderLemmas.{groups_of_branch, equal_answer}
use Rattle.axiom_strategy.proofs.decisions.equal_orders.equal_order.Goals as goal

pub number_positions-requires-clause-numbers : goal.number_positions-requires-clause-numbers
number_positions-requires-clause-numbers c = rw c.as_slice-marks.ensures.value c.in_ok-numbers.ensures

pub equal_in_groups-requires-clause-pairs : goal.equal_in_groups-requires-clause-pairs
equal_in_groups-requires-clause-pairs c =
    rw c.as_slice-all.ensures.value (groups_of_branch c.args.pool.now c.args.branch.now c.requires.over c.in_ok-positions.positions.all.items c.in_ok-positions.positions.by_group c.in_ok-positions.ensures)

pub returns-clause-due : goal.returns-clause-due
returns-clause-due c =
    equal_answer c.args.pool.now c.args.branch.now c.requires.over c.in_ok-positions.positions.all.items c.in_ok-positions.positions.by_group c.in_ok-positions.ensures c.equal_in_groups.new.pool c.equal_in_groups.ensures.extends c.equal_in_groups.result (rw c.as_slice-all.ensures.value at c.equal_in_groups.ensures.due)
