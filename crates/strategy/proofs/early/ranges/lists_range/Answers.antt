use Rattle.std.proofs.Common.{◌≡◌, true, false, get_or, refl}
use Rattle.std.proofs.lemmas.Option.{slice_get-get_or}
use Rattle.axioms.specs.declared.axiom.Axiom.TheVariants.{Equal}
use Rattle.axioms.specs.declared.axiom.Equation.TheVariants.{Itself}
use Rattle.axiom_instances.specs.declared.triggered.TriggeredTerms.TheVariants.{None as NoTerms}
use Rattle.axiom_instances.specs.declared.triggered.TriggeredAxiom.{TriggeredAxiom}
use Rattle.strategy.proofs.RangeLemmas.{none_listed, none_more, none_all}
use Rattle.strategy.proofs.early.ranges.lists_range.Goals as goal

abbrev none : TriggeredAxiom
none = record { name = Equal Itself; terms = NoTerms; formula = 0 }

pub loop-instance-init : goal.loop-instance-init
loop-instance-init c = none_listed c.args.instances.now c.args.formula

pub returns-then-is_range_instance : goal.returns-then-is_range_instance
returns-then-is_range_instance c =
    let xs = c.args.instances.now in
    let i = c.loop-instance.instance-index in
    (λ e. record { position = i; instance = get_or xs i none; found = slice_get-get_or xs i none c.loop-instance-test.true; is = c.if-is_range_instance.ensures.0 refl }, λ l. refl)

pub loop-instance-preserved : goal.loop-instance-preserved
loop-instance-preserved c =
    let xs = c.args.instances.now in
    let i = c.loop-instance.instance-index in
    none_more xs c.args.formula i (get_or xs i none) (slice_get-get_or xs i none c.loop-instance-test.true) c.loop-instance.invariant (λ h. (let both : false ≡ true = c.if-is_range_instance.ensures.1 h in absurd (cc)))

pub returns : goal.returns
returns c = (
  λ e. absurd (cc),
  λ l. absurd (none_all c.args.instances.now c.args.formula c.loop-instance.instance-index c.loop-instance-test.false c.loop-instance.invariant l),
)
