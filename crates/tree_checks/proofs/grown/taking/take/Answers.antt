use Rattle.tableau.proofs.PushLemmas.{over_still}
use Rattle.tableau.proofs.NumberLemmas.{formulas_stay}
use Rattle.tree_checks.proofs.CaseLemmas.{not_growing, taken_or_not}
use Rattle.tree_checks.proofs.GrownKeptLemmas.{kept_longer}
use Rattle.tree_checks.proofs.GrownTruthLemmas.{refuted}
use Rattle.tree_checks.proofs.grown.taking.take.Goals as goal

pub returns-then-not-growing-clause-over : goal.returns-then-not-growing-clause-over
returns-then-not-growing-clause-over c = over_still c.args.pool.now c.is_growing.new.pool c.is_growing.ensures.extends c.args.branch.now c.requires.over

pub returns-then-not-growing-clause-exact : goal.returns-then-not-growing-clause-exact
returns-then-not-growing-clause-exact c =
    not_growing c.args.shapes.now c.args.pool.now c.args.branch.now.entries c.args.step.now (refuted c.in_ok-growing.growing c.if-not-growing.true c.in_ok-growing.ensures.exact)

pub go_on-requires-clause-over : goal.go_on-requires-clause-over
go_on-requires-clause-over c = over_still c.args.pool.now c.is_growing.new.pool c.is_growing.ensures.extends c.args.branch.now c.requires.over

pub go_on-requires-clause-formulas : goal.go_on-requires-clause-formulas
go_on-requires-clause-formulas c = formulas_stay c.args.pool.now c.is_growing.new.pool c.is_growing.ensures.extends c.args.step.now.extension.formulas.items c.requires.numbers.formulas

pub returns-clause-kept : goal.returns-clause-kept
returns-clause-kept c = kept_longer c.is_growing.new.pool c.args.branch.now.entries c.go_on.new.branch.entries c.in_ok-known.ensures.longer c.is_growing.new.kept c.in_ok-growing.ensures.kept

pub returns-clause-exact : goal.returns-clause-exact
returns-clause-exact c =
    let ns = c.args.pool.now in
    let es = c.args.branch.now.entries in
    let s = c.args.step.now in
    let growing = c.in_ok-growing.ensures.exact.0 c.if-not-growing.false in
    taken_or_not c.args.shapes.now ns es s c.is_growing.new.pool c.is_growing.ensures.extends c.requires.numbers.formulas c.requires.over.formulas growing c.go_on.new.branch.entries c.in_ok-known.known c.in_ok-known.ensures.exact
