use Rattle.tableau.specs.Numbers.{formula_at}
use Rattle.tableau.proofs.SplitLemmas.{implication}
use Rattle.tableau.proofs.rules.split.cases.Goals as goal

pub returns-in_ok-pair-in-Some-Connect-Implies-default-default-clause-are : goal.returns-in_ok-pair-in-Some-Connect-Implies-default-default-clause-are
returns-in_ok-pair-in-Some-Connect-Implies-default-default-clause-are c =
    let arm = c.in-Some-Connect-Implies-default-default in
    implication c.args.pool.now c.denial.new.pool c.denial.ensures.extends (formula_at c.args.pool.now c.args.formula) arm.left arm.right c.in_ok-denied-in-Some-Connect-Implies-default-default.denied (c.in_ok-pair-in-Some-Connect-Implies-default-default.field-0).items (rw arm.field-0-0-is at (rw arm.field-0-is at arm.ensures)) c.in_ok-denied-in-Some-Connect-Implies-default-default.ensures.is c.in_ok-pair-in-Some-Connect-Implies-default-default.ensures
