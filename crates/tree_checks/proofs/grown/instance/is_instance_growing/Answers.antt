use Rattle.std.proofs.Common.{[]}
use Rattle.std.proofs.lemmas.List.Elements.{All-head}
use Rattle.certificates.specs.Due.{InstanceDue}
use Rattle.tableau.specs.PoolBranches.{branch_in, IsTermNumber}
use Rattle.search.specs.Applications.{term_at}
use Rattle.search.specs.declared.trees.application.Reason.TheVariants.{Instance}
use Rattle.tree_checks.proofs.GrowthLemmas.{not_due, due_tells, no_formula, one_number, one_tells, terms_named}
use Rattle.tree_checks.proofs.grown.instance.is_instance_growing.Goals as goal

pub returns-in_default-clause-exact : goal.returns-in_default-clause-exact
returns-in_default-clause-exact c = λ shapes. (
    let ns = c.args.pool.now in
    let b = branch_in ns c.args.branch.now in
    let g = c.args.extension.now in
    not_due shapes ns b g (Instance c.args.entry c.args.term) c.requires.reason c.requires.numbers (no_formula ns g.formulas.items (λ p. InstanceDue b c.args.entry (term_at ns c.args.term) p g.generation) (rw c.as_slice.ensures.value at c.in_default.ensures)))

pub is_instance_due-requires-clause-term : goal.is_instance_due-requires-clause-term
is_instance_due-requires-clause-term c =
    let ns = c.args.pool.now in
    All-head (IsTermNumber ns) c.args.term [] (terms_named [] ns (branch_in ns c.args.branch.now) c.args.extension.now (Instance c.args.entry c.args.term) c.requires.reason c.requires.numbers)

pub is_instance_due-requires-clause-formula : goal.is_instance_due-requires-clause-formula
is_instance_due-requires-clause-formula c = one_number c.args.pool.now c.args.extension.now.formulas.items c.in-Some.formula (rw c.as_slice.ensures.value at c.in-Some.ensures) c.requires.numbers.formulas

pub returns-clause-exact : goal.returns-clause-exact
returns-clause-exact c = λ shapes. (
    let ns = c.args.pool.now in
    let b = branch_in ns c.args.branch.now in
    let g = c.args.extension.now in
    due_tells shapes ns b g (Instance c.args.entry c.args.term) c.requires.reason c.requires.numbers tt c.in_ok-known.known
    (one_tells ns g.formulas.items c.in-Some.formula (rw c.as_slice.ensures.value at c.in-Some.ensures) (λ p. InstanceDue b c.args.entry (term_at ns c.args.term) p g.generation) c.in_ok-known.known c.in_ok-known.ensures.exact))
