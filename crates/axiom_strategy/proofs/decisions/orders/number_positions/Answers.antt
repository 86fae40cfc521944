use Rattle.axiom_strategy.proofs.CutLemmas.{list_known, list_within}
use Rattle.axiom_strategy.proofs.OrderLemmas.{number_positions}
use Rattle.axiom_strategy.proofs.decisions.orders.number_positions.Goals as goal

pub marked-requires : goal.marked-requires
marked-requires c =
    rw (c.as_slice-all.ensures.value, c.requires.numbers.one_each) (list_within c.args.pool.now c.one_number.ensures c.args.branch.now c.requires.over c.args.classes.now c.requires.classes c.exact.ensures c.in_ok-listed.listed.items (λ t. (c.in_ok-listed.ensures.each t).0))

pub find_positions-requires-clause-candidates : goal.find_positions-requires-clause-candidates
find_positions-requires-clause-candidates c =
    rw c.as_slice-2.ensures.value (list_known c.args.pool.now c.one_number.ensures c.args.branch.now c.requires.over c.args.classes.now c.requires.classes c.exact.ensures c.in_ok-found.found.items (λ t m. (c.in_ok-listed.ensures.each t).0 (((rw c.as_slice-all.ensures.value at c.in_ok-found.ensures).each t).0 m).0))

pub returns : goal.returns
returns c =
    number_positions c.args.pool.now c.one_number.ensures c.args.branch.now c.requires.over c.args.numbers.now c.requires.numbers c.args.classes.now c.requires.classes c.exact.ensures c.in_ok-near.near.items c.in_ok-near.ensures c.in_ok-listed.listed.items c.in_ok-found.found.items c.in_ok-listed.ensures (rw c.as_slice-all.ensures.value at c.in_ok-found.ensures) c.in_ok-positions.positions.all.items c.in_ok-positions.positions.by_group
    (rw (c.as_slice.ensures.value, c.as_slice-2.ensures.value) at c.in_ok-positions.ensures)
