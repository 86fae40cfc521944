use Rattle.std.proofs.Common.{subst}
use Rattle.std.specs.Prelude.{MatchOption}
use Rattle.certificates.specs.ProofTraces.{IsFull}
use Rattle.search.specs.Decisions.{IsClosingDue}
use Rattle.closing_rules.proofs.class_closings.linked.clash_answer.Goals as goal

pub returns-in_default : goal.returns-in_default
returns-in_default c = λ shapes ns b p chain said denied. subst (λ o. MatchOption o (IsFull shapes b) (IsClosingDue shapes ns b)) c.in_default.is (c.in_ok-closing.ensures shapes ns b p chain said denied)

pub returns : goal.returns
returns c = λ shapes ns b p chain said denied. subst (λ o. MatchOption o (IsFull shapes b) (IsClosingDue shapes ns b)) c.in-Some.is (c.in_ok-closing.ensures shapes ns b p chain said denied)
