use Rattle.tableau.specs.PoolBranches.{branch_in}
use Rattle.tableau.proofs.GraphLemmas.{ok_map}
use Rattle.axiom_strategy.specs.Askers.{asks_at}
use Rattle.axiom_strategy.proofs.DueLemmas.{some_none}
use Rattle.axiom_strategy.proofs.NextLemmas.{askers_of, next_answer}
use Rattle.axiom_strategy.proofs.next.next_axiom.Goals as goal

pub all_askers-requires-clause-typings : goal.all_askers-requires-clause-typings
all_askers-requires-clause-typings c = rw c.as_slice.ensures.value c.in_ok-found.ensures

pub next_triggered-requires-clause-askers : goal.next_triggered-requires-clause-askers
next_triggered-requires-clause-askers c =
    let ns = c.args.pool.now in
    rw c.as_slice-2.ensures.value (askers_of ns (branch_in ns c.args.branch.now) c.in_ok-askers.askers.items c.in_ok-askers.ensures)

pub next_triggered-requires-clause-before : goal.next_triggered-requires-clause-before
next_triggered-requires-clause-before c = some_none (asks_at c.args.shapes.now c.args.pool.now c.as_slice-2.result.now)

pub returns-clause-due : goal.returns-clause-due
returns-clause-due c =
    let answer = rw c.as_slice-2.ensures.value at c.next_triggered.ensures.due in
    ok_map c.next_triggered.result (λ o h. next_answer c.args.shapes.now c.args.pool.now c.args.branch.now c.requires.over c.in_ok-askers.askers.items c.in_ok-askers.ensures c.next_triggered.ensures.extends o h) answer
