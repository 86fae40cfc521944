use Rattle.axiom_strategy.specs.DuePairs.{IsDuePair}
use Rattle.tableau.specs.PoolBranches.{branch_in}
use Rattle.axiom_strategy.proofs.CutLemmas.{equation_parts, cut_made}
use Rattle.axiom_strategy.proofs.decisions.cuts.next_cut.Goals as goal

pub due_pair-requires-clause-numbers : goal.due_pair-requires-clause-numbers
due_pair-requires-clause-numbers c = rw c.as_slice-marks.ensures.value c.in_ok-numbers.ensures

pub returns-in_default-clause-due : goal.returns-in_default-clause-due
returns-in_default-clause-due c = rw c.in_default.is at c.in_ok-left.ensures

pub insert-requires : goal.insert-requires
insert-requires c =
    let due : IsDuePair c.args.pool.now (branch_in c.args.pool.now c.args.branch.now) (c.in-Some.left, c.in-Some.right) = rw c.in-Some.is at c.in_ok-left.ensures in
    equation_parts c.args.pool.now c.in-Some.left c.in-Some.right due.left.number due.right.number

pub returns-clause-due : goal.returns-clause-due
returns-clause-due c =
    let due : IsDuePair c.args.pool.now (branch_in c.args.pool.now c.args.branch.now) (c.in-Some.left, c.in-Some.right) = rw c.in-Some.is at c.in_ok-left.ensures in
    cut_made c.args.pool.now c.insert.new.self c.insert.ensures.extends c.args.branch.now c.requires.over c.in-Some.left c.in-Some.right c.in_ok-equation.equation due.left due.right due.due c.in_ok-equation.ensures.is
