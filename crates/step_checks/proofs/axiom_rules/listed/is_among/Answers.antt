use Rattle.std.proofs.Common.{◌≡◌, true, false, List, refl, subst}
use Rattle.std.specs.Prelude.{All, Contains}
use Rattle.std.proofs.lemmas.List.{take_all}
use Rattle.std.proofs.lemmas.List.Elements.{All-more, Contains-get_or}
use Rattle.axioms.specs.declared.axiom.Axiom.TheVariants.{Equal}
use Rattle.axioms.specs.declared.axiom.Equation.TheVariants.{Itself}
use Rattle.axiom_strategy.specs.declared.due.AxiomStep.{AxiomStep}
use Rattle.step_checks.proofs.ListedLemmas.{none_among}
use Rattle.step_checks.proofs.axiom_rules.listed.is_among.Goals as goal

abbrev none : AxiomStep
none = record { name = Equal Itself; formula = 0; generation = 0 }

pub returns-then-is_same_step : goal.returns-then-is_same_step
returns-then-is_same_step c = (
  λ t. subst (Contains c.args.steps.now) (c.if-is_same_step.ensures.0 refl) (Contains-get_or c.args.steps.now c.loop-step.step-index none c.loop-step-test.true),
  λ h. refl,
)

pub loop-step-preserved : goal.loop-step-preserved
loop-step-preserved c =
    All-more (λ s. s ≡ c.args.sought → ⊥) c.args.steps.now c.loop-step.step-index none c.loop-step-test.true c.loop-step.invariant (λ e. (let both : false ≡ true = c.if-is_same_step.ensures.1 e in absurd (cc)))

pub returns : goal.returns
returns c = (
  λ t. absurd (cc),
  λ h. absurd (none_among c.args.steps.now c.args.sought (subst (λ (xs : List AxiomStep). All (λ s. s ≡ c.args.sought → ⊥) xs) (take_all c.loop-step.step-index c.args.steps.now c.loop-step-test.false) c.loop-step.invariant) h),
)
