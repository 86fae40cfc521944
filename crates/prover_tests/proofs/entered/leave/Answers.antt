use Rattle.std.proofs.Common.{sym, subst}
use Rattle.tableau.specs.Variables.{AreAbove}
use Rattle.prover_tests.proofs.entered.leave.Goals as goal

pub returns-clause-above : goal.returns-clause-above
returns-clause-above c = λ ns h.
    subst (λ es. AreAbove ns es c.truncate-2.new.self) (sym c.truncate.ensures.entries) (c.truncate-2.ensures ns c.args.branch.now.entries h)
