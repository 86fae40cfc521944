use Rattle.axiom_strategy.proofs.PairLemmas.{known_positions, pair_answer}
use Rattle.axiom_strategy.proofs.decisions.cuts.due_pair.Goals as goal

pub cut_positions-requires-clause-numbers : goal.cut_positions-requires-clause-numbers
cut_positions-requires-clause-numbers c = c.requires.numbers.one_each

pub open_pair-requires : goal.open_pair-requires
open_pair-requires c =
    rw c.as_slice-all.ensures.value (known_positions c.args.pool.now c.one_number.ensures c.args.branch.now c.requires.over c.args.classes.now c.requires.classes c.exact.ensures c.args.numbers.now c.requires.numbers c.in_ok-denied.denied c.in_ok-denied.ensures c.in_ok-positions.positions.all.items c.in_ok-positions.positions.by_group c.in_ok-positions.ensures)

pub returns : goal.returns
returns c =
    pair_answer c.args.pool.now c.one_number.ensures c.args.branch.now c.requires.over c.args.classes.now c.requires.classes c.exact.ensures c.args.numbers.now c.requires.numbers c.in_ok-denied.denied c.in_ok-denied.ensures c.in_ok-positions.positions.all.items c.in_ok-positions.positions.by_group c.in_ok-positions.ensures c.open_pair.result (rw c.as_slice-all.ensures.value at c.open_pair.ensures)
