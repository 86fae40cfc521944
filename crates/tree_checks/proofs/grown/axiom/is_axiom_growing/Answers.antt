use Rattle.std.proofs.Common.{◌<◌, ◌^◌, arith}
use Rattle.certificates.specs.BranchesBranch.{formulas}
use Rattle.certificates.specs.Due.{AxiomDue}
use Rattle.certificates.specs.Names.{above_all}
use Rattle.tableau.proofs.AboveLemmas.{all_new}
use Rattle.tableau.specs.PoolBranches.{branch_in}
use Rattle.search.specs.declared.trees.application.Reason.TheVariants.{Axiom}
use Rattle.tree_checks.proofs.GrowthLemmas.{not_due, due_tells, no_formula, one_number, one_tells}
use Rattle.tree_checks.proofs.GrownKeptLemmas.{kept_stays}
use Rattle.tree_checks.proofs.GrownTruthLemmas.{refuted, weaker}
use Rattle.tree_checks.proofs.grown.axiom.is_axiom_growing.Goals as goal

pub returns-in_default-clause-exact : goal.returns-in_default-clause-exact
returns-in_default-clause-exact c =
    let ns = c.args.pool.now in
    let shapes = c.args.shapes.now in
    let b = branch_in ns c.args.branch.now in
    let g = c.args.extension.now in
    not_due shapes ns b g (Axiom c.args.name) c.requires.reason c.requires.numbers (no_formula ns g.formulas.items (λ p. AxiomDue shapes b c.args.name p g.generation × (above_all (formulas b) < 2 ^ 32)) (rw c.as_slice.ensures.value at c.in_default.ensures))

pub returns-then-crowded-clause-kept : goal.returns-then-crowded-clause-kept
returns-then-crowded-clause-kept c = record { above = c.in_ok-above.ensures.above; state = c.requires.kept.state; heads = c.requires.kept.heads; quantifiers = c.requires.kept.quantifiers }

pub returns-then-crowded-clause-exact : goal.returns-then-crowded-clause-exact
returns-then-crowded-clause-exact c =
    let ns = c.args.pool.now in
    let b = branch_in ns c.args.branch.now in
    not_due c.args.shapes.now ns b c.args.extension.now (Axiom c.args.name) c.requires.reason c.requires.numbers (λ d. (
    let room = d.2.1 in
    let past = c.is_past-crowded.ensures.0 c.if-crowded.true in
    let same = c.in_ok-above.ensures.is in
    omega (arith, room, past, same)))

pub is_axiom_due-requires-clause-room : goal.is_axiom_due-requires-clause-room
is_axiom_due-requires-clause-room c =
    let b = branch_in c.args.pool.now c.args.branch.now in
    let none = refuted c.is_past-crowded.result c.if-crowded.false c.is_past-crowded.ensures in
    let same = c.in_ok-above.ensures.is in
    record { number = above_all (formulas b); is_variable = omega (arith, none, same); is_new = all_new (above_all (formulas b)) (formulas b) (omega arith) }

pub is_axiom_due-requires-clause-formula : goal.is_axiom_due-requires-clause-formula
is_axiom_due-requires-clause-formula c = one_number c.args.pool.now c.args.extension.now.formulas.items c.in-Some.formula (rw c.as_slice.ensures.value at c.in-Some.ensures) c.requires.numbers.formulas

pub returns-clause-kept : goal.returns-clause-kept
returns-clause-kept c =
    kept_stays c.args.pool.now c.is_axiom_due.new.pool c.is_axiom_due.ensures.extends c.args.branch.now c.requires.over _ (record { above = c.in_ok-above.ensures.above; state = c.in_ok-follow_classes.ensures.state; heads = c.requires.kept.heads; quantifiers = c.requires.kept.quantifiers })

pub returns-clause-exact : goal.returns-clause-exact
returns-clause-exact c =
    let ns = c.args.pool.now in
    let shapes = c.args.shapes.now in
    let b = branch_in ns c.args.branch.now in
    let g = c.args.extension.now in
    let none = refuted c.is_past-crowded.result c.if-crowded.false c.is_past-crowded.ensures in
    let same = c.in_ok-above.ensures.is in
    let room : above_all (formulas b) < 2 ^ 32 = omega (arith, none, same) in
    due_tells shapes ns b g (Axiom c.args.name) c.requires.reason c.requires.numbers tt c.in_ok-known.known
    (one_tells ns g.formulas.items c.in-Some.formula (rw c.as_slice.ensures.value at c.in-Some.ensures) (λ p. AxiomDue shapes b c.args.name p g.generation × (above_all (formulas b) < 2 ^ 32)) c.in_ok-known.known
    (weaker c.in_ok-known.known (λ due. (due, room)) (λ d. d.0) c.in_ok-known.ensures.exact))
