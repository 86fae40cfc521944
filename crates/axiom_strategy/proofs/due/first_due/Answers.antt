use Rattle.std.proofs.Common.{get_or}
use Rattle.std.proofs.lemmas.Option.{slice_get-get_or}
use Rattle.axioms.specs.declared.axiom.Axiom.TheVariants.{Equal}
use Rattle.axioms.specs.declared.axiom.Equation.TheVariants.{Itself}
use Rattle.tableau.specs.PoolBranches.{branch_in}
use Rattle.axiom_instances.specs.declared.triggered.TriggeredTerms.TheVariants.{None as NoTerms}
use Rattle.axiom_instances.specs.declared.triggered.TriggeredAxiom.{TriggeredAxiom}
use Rattle.axiom_strategy.proofs.DueLemmas.{before_none, before_more, before_all, listed_step}
use Rattle.axiom_strategy.proofs.due.first_due.Goals as goal

abbrev none : TriggeredAxiom
none = record { name = Equal Itself; terms = NoTerms; formula = 0 }

pub loop-triggered-init : goal.loop-triggered-init
loop-triggered-init c = before_none c.args.pool.now (branch_in c.args.pool.now c.args.branch.now) c.args.wanted c.args.instances.now

pub step_of-requires-clause-triggered : goal.step_of-requires-clause-triggered
step_of-requires-clause-triggered c =
    let xs = c.args.instances.now in
    let i = c.loop-triggered.triggered-index in
    c.requires.instances.each i (get_or xs i none) (slice_get-get_or xs i none c.loop-triggered-test.true)

pub returns-in-Some : goal.returns-in-Some
returns-in-Some c =
    let ns = c.args.pool.now in
    let xs = c.args.instances.now in
    let i = c.loop-triggered.triggered-index in
    listed_step ns (branch_in ns c.args.branch.now) c.args.wanted xs i (get_or xs i none) c.in-Some.step (slice_get-get_or xs i none c.loop-triggered-test.true) c.in-Some.ensures

pub loop-triggered-preserved : goal.loop-triggered-preserved
loop-triggered-preserved c =
    let ns = c.args.pool.now in
    let xs = c.args.instances.now in
    let i = c.loop-triggered.triggered-index in
    before_more ns (branch_in ns c.args.branch.now) c.args.wanted xs i (get_or xs i none) (slice_get-get_or xs i none c.loop-triggered-test.true) c.loop-triggered.invariant c.in_default.ensures

pub returns : goal.returns
returns c =
    let ns = c.args.pool.now in
    before_all ns (branch_in ns c.args.branch.now) c.args.wanted c.args.instances.now c.loop-triggered.triggered-index c.loop-triggered-test.false c.loop-triggered.invariant
