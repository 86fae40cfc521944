use Rattle.std.proofs.Common.{sym}
use Rattle.base.specs.TypeData.{NumType}
use Rattle.fol.specs.FormulaData.{IsFormula}
use Rattle.term_pool.proofs.GrowthLemmas.{extends_then}
use Rattle.tableau.specs.Terms.{term_at}
use Rattle.tree_checks.proofs.BoundLemmas.{number_parts, number_made, no_entry_says, entry_tells}
use Rattle.tree_checks.proofs.grown.bound.is_said.Goals as goal

pub insert-requires-2 : goal.insert-requires-2
insert-requires-2 c = number_parts c.args.pool.now c.insert.new.self c.insert.ensures.extends c.args.term c.in_ok-of.of c.requires.term c.in_ok-of.ensures.is

pub returns-in_default-clause-extends : goal.returns-in_default-clause-extends
returns-in_default-clause-extends c = extends_then c.insert.ensures.extends c.insert-2.ensures.extends

pub returns-in_default-clause-exact : goal.returns-in_default-clause-exact
returns-in_default-clause-exact c =
    no_entry_says c.args.pool.now c.insert-2.new.self (extends_then c.insert.ensures.extends c.insert-2.ensures.extends) c.args.branch.now c.requires.over c.args.entry c.in_default.ensures (IsFormula NumType (term_at c.args.pool.now c.args.term))

pub returns-clause-extends : goal.returns-clause-extends
returns-clause-extends c = extends_then c.insert.ensures.extends c.insert-2.ensures.extends

pub returns-clause-exact : goal.returns-clause-exact
returns-clause-exact c =
    let number = number_made c.args.pool.now c.insert.new.self c.insert.ensures.extends c.args.term c.in_ok-of.of c.requires.term c.in_ok-of.ensures.is c.insert-2.new.self c.insert-2.ensures.extends c.in_ok-formula.formula c.in_ok-formula.ensures.is in
    entry_tells c.args.pool.now c.insert-2.new.self (extends_then c.insert.ensures.extends c.insert-2.ensures.extends) c.args.branch.now c.requires.over c.args.entry c.in-Some.at (sym c.in-Some.ensures) c.one_number.ensures (IsFormula NumType (term_at c.args.pool.now c.args.term)) c.in_ok-formula.formula number c.is_same.result c.is_same.ensures
