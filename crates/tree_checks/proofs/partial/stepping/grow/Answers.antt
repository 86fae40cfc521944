use Rattle.tableau.proofs.NumberLemmas.{formulas_stay}
use Rattle.tree_checks.proofs.GrownTruthLemmas.{refuted}
use Rattle.tree_checks.specs.declared.partial.applications.GivenApplication.TheVariants.{Grown}
use Rattle.tree_checks.proofs.WalkLemmas.{walk_later}
use Rattle.tree_checks.proofs.TakenLemmas.{none_open, not_due, grown_or_not}
use Rattle.tree_checks.proofs.partial.stepping.grow.Goals as goal

pub returns-then-not-walk-clause-exact : goal.returns-then-not-walk-clause-exact
returns-then-not-walk-clause-exact c = none_open c.args.shapes.now c.args.pool.now (Grown c.args.given.now) c.args.walk.now c.if-not-walk.true

pub returns-then-not-due-clause-walk : goal.returns-then-not-due-clause-walk
returns-then-not-due-clause-walk c = walk_later c.args.pool.now c.is_due_by.new.pool c.is_due_by.ensures.extends c.args.walk.now c.is_due_by.new.kept c.requires.walk c.in_ok-due.ensures.kept

pub returns-then-not-due-clause-exact : goal.returns-then-not-due-clause-exact
returns-then-not-due-clause-exact c = not_due c.args.shapes.now c.args.pool.now c.args.walk.now c.if-not-walk.false c.args.given.now (refuted c.in_ok-due.due c.if-not-due.true c.in_ok-due.ensures.exact)

pub advance-requires-clause-walk : goal.advance-requires-clause-walk
advance-requires-clause-walk c = walk_later c.args.pool.now c.is_due_by.new.pool c.is_due_by.ensures.extends c.args.walk.now c.is_due_by.new.kept c.requires.walk c.in_ok-due.ensures.kept

pub advance-requires-clause-formulas : goal.advance-requires-clause-formulas
advance-requires-clause-formulas c = formulas_stay c.args.pool.now c.is_due_by.new.pool c.is_due_by.ensures.extends c.args.given.now.extension.formulas.items c.requires.numbers.formulas

pub returns-clause-exact : goal.returns-clause-exact
returns-clause-exact c =
    grown_or_not c.args.shapes.now c.args.pool.now c.is_due_by.new.pool c.is_due_by.ensures.extends c.args.walk.now c.requires.walk c.if-not-walk.false c.args.given.now c.requires.numbers c.is_due_by.new.kept (c.in_ok-due.ensures.exact.0 c.if-not-due.false) c.advance.new.walk c.in_ok-known.known c.in_ok-known.ensures.exact
