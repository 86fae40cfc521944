use Rattle.std.proofs.Common.{length}
use Rattle.tableau.specs.PoolBranches.{branch_in}
use Rattle.axiom_strategy.specs.Askers.{asks_at}
use Rattle.axiom_strategy.proofs.DueLemmas.{some_none}
use Rattle.tableau.proofs.GraphLemmas.{ok_map}
use Rattle.axiom_strategy.proofs.RangeLemmas.{askers_are, ranges_answer}
use Rattle.axiom_strategy.proofs.ranges.next_range_axiom.Goals as goal

pub next_triggered-requires-clause-askers : goal.next_triggered-requires-clause-askers
next_triggered-requires-clause-askers c =
    let ns = c.args.pool.now in
    rw (c.as_slice-2.ensures.value, c.in_ok-askers.ensures, c.as_slice.ensures.value)
    (askers_are ns (branch_in ns c.args.branch.now) c.args.terms.now c.requires.terms (length c.args.branch.now.entries) c.in_ok-found.found.items c.in_ok-found.ensures)

pub next_triggered-requires-clause-before : goal.next_triggered-requires-clause-before
next_triggered-requires-clause-before c = some_none (asks_at c.args.shapes.now c.args.pool.now c.as_slice-2.result.now)

pub returns-clause-due : goal.returns-clause-due
returns-clause-due c =
    let answer = rw (c.as_slice-2.ensures.value, c.in_ok-askers.ensures, c.as_slice.ensures.value) at c.next_triggered.ensures.due in
    ok_map c.next_triggered.result (λ o h. ranges_answer c.args.shapes.now c.args.pool.now c.one_number.ensures c.args.branch.now c.requires.over c.args.terms.now c.requires.terms c.in_ok-found.found.items c.in_ok-found.ensures c.next_triggered.ensures.extends o h) answer
