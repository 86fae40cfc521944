use Rattle.std.proofs.Common.{subst}
use Rattle.std.specs.Prelude.{MatchOption}
use Rattle.certificates.specs.Due.{IsNotClosed}
use Rattle.tableau.specs.PoolBranches.{branch_in}
use Rattle.closing_rules.specs.Clashes.{IsClashOf}
use Rattle.closing_rules.proofs.class_closings.closing.closing.Goals as goal

pub returns-in-Some-clause-shown : goal.returns-in-Some-clause-shown
returns-in-Some-clause-shown c = λ shapes. c.literal_closing-closing.ensures shapes

pub returns-in_default-2-clause-shown : goal.returns-in_default-2-clause-shown
returns-in_default-2-clause-shown c = λ shapes. (
    let b = branch_in c.args.pool.now c.args.branch.now in
    subst (λ o. MatchOption o (IsNotClosed b) (IsClashOf b)) c.in_default-2.is c.in_ok-clash.ensures)

pub clash_closing-requires-clause-clash : goal.clash_closing-requires-clause-clash
clash_closing-requires-clause-clash c =
    let b = branch_in c.args.pool.now c.args.branch.now in
    subst (λ o. MatchOption o (IsNotClosed b) (IsClashOf b)) c.in-Some-2.is c.in_ok-clash.ensures
