use Rattle.tableau.specs.PoolBranches.{branch_in}
use Rattle.tableau.proofs.GraphLemmas.{ok_map}
use Rattle.axiom_strategy.proofs.NearLemmas.{near_answer}
use Rattle.axiom_strategy.proofs.NextLemmas.{askers_of}
use Rattle.axiom_strategy.proofs.near.near_axiom.Goals as goal

pub all_askers-requires-clause-typings : goal.all_askers-requires-clause-typings
all_askers-requires-clause-typings c = rw c.as_slice.ensures.value c.in_ok-found.ensures

pub near_triggered-requires-clause-askers : goal.near_triggered-requires-clause-askers
near_triggered-requires-clause-askers c =
    let ns = c.args.pool.now in
    rw c.as_slice-2.ensures.value (askers_of ns (branch_in ns c.args.branch.now) c.in_ok-askers.askers.items c.in_ok-askers.ensures)

pub returns-clause-due : goal.returns-clause-due
returns-clause-due c =
    let answer = rw c.as_slice-2.ensures.value at c.near_triggered.ensures.due in
    ok_map c.near_triggered.result (λ o h. near_answer c.args.shapes.now c.args.pool.now c.args.branch.now c.requires.over c.in_ok-askers.askers.items c.in_ok-askers.ensures c.near_triggered.ensures.extends o h) answer
