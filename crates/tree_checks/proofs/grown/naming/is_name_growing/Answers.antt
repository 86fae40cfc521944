use Rattle.certificates.specs.Due.{NameDue}
use Rattle.tableau.specs.PoolBranches.{branch_in}
use Rattle.search.specs.declared.trees.application.Reason.TheVariants.{Name}
use Rattle.tree_checks.proofs.GrowthLemmas.{other_generation, not_due, due_tells, no_formula, one_number, one_tells}
use Rattle.tree_checks.proofs.GrownTruthLemmas.{refuted}
use Rattle.tree_checks.proofs.grown.naming.is_name_growing.Goals as goal

pub returns-then-not-own-clause-exact : goal.returns-then-not-own-clause-exact
returns-then-not-own-clause-exact c = λ shapes. (
    let ns = c.args.pool.now in
    other_generation shapes ns (branch_in ns c.args.branch.now) c.args.extension.now (Name c.args.entry c.args.variable) c.requires.reason c.requires.numbers (refuted c.is_own-own.result c.if-not-own.true (c.is_own-own.ensures ns)))

pub returns-in_default-clause-exact : goal.returns-in_default-clause-exact
returns-in_default-clause-exact c = λ shapes. (
    let ns = c.args.pool.now in
    let b = branch_in ns c.args.branch.now in
    let g = c.args.extension.now in
    not_due shapes ns b g (Name c.args.entry c.args.variable) c.requires.reason c.requires.numbers (no_formula ns g.formulas.items (NameDue b c.args.entry c.args.variable) (rw c.as_slice.ensures.value at c.in_default.ensures)))

pub is_name_due-requires-clause-formula : goal.is_name_due-requires-clause-formula
is_name_due-requires-clause-formula c = one_number c.args.pool.now c.args.extension.now.formulas.items c.in-Some.formula (rw c.as_slice.ensures.value at c.in-Some.ensures) c.requires.numbers.formulas

pub returns-clause-exact : goal.returns-clause-exact
returns-clause-exact c = λ shapes. (
    let ns = c.args.pool.now in
    let b = branch_in ns c.args.branch.now in
    let g = c.args.extension.now in
    due_tells shapes ns b g (Name c.args.entry c.args.variable) c.requires.reason c.requires.numbers ((c.is_own-own.ensures ns).0 c.if-not-own.false) c.in_ok-known.known
    (one_tells ns g.formulas.items c.in-Some.formula (rw c.as_slice.ensures.value at c.in-Some.ensures) (NameDue b c.args.entry c.args.variable) c.in_ok-known.known c.in_ok-known.ensures.exact))
