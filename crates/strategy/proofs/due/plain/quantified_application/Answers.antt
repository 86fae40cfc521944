use Rattle.std.proofs.Common.{refl, subst}
use Rattle.std.specs.Prelude.{MatchOption}
use Rattle.tableau.specs.PoolBranches.{branch_in}
use Rattle.tableau.specs.Numbers.{formula_at}
use Rattle.ematching.specs.Instances.{NoInstance, IsInstanceStep}
use Rattle.search.specs.Decisions.{IsExtensionDue}
use Rattle.search.proofs.ApplicationLemmas.{fact_goes_back}
use Rattle.strategy.proofs.due.plain.quantified_application.Goals as goal

pub returns-in_default-clause-due : goal.returns-in_default-clause-due
returns-in_default-clause-due c = λ shapes. (
    let ms = c.next_instance.new.pool in
    let b = branch_in ms c.args.branch.now in
    fact_goes_back c.args.pool.now ms c.next_instance.ensures.extends NoInstance c.args.branch.now c.requires.over (subst (λ o. MatchOption o (NoInstance b) (IsInstanceStep ms b)) c.in_default.is c.in_ok-step.ensures.due))

pub returns-clause-due : goal.returns-clause-due
returns-clause-due c = λ shapes. (
    let ms = c.next_instance.new.pool in
    let b = branch_in ms c.args.branch.now in
    let found = subst (λ o. MatchOption o (NoInstance b) (IsInstanceStep ms b)) c.in-Some.is c.in_ok-step.ensures.due in
    fact_goes_back c.args.pool.now ms c.next_instance.ensures.extends (λ h. IsExtensionDue shapes ms h c.in_ok-application.application) c.args.branch.now c.requires.over
    (c.in_ok-application.ensures shapes ms b (formula_at ms c.in-Some.step.formula) found.instance.term (record { number = found.instance.formula; is = refl }) found.instance.due))
