use Rattle.term_pool.specs.Items.{FormulaSort}
use Rattle.term_pool.proofs.FormLemmas.{is_formula_number, no_number}
use Rattle.term_pool.proofs.pool.Pool.is_formula.Goals as goal

pub returns-in-Some : goal.returns-in-Some
returns-in-Some c = is_formula_number c.args.self.now c.args.number c.in-Some.node c.in-Some.ensures c.is_formula_node.result c.is_formula_node.ensures

pub returns-in-None : goal.returns-in-None
returns-in-None c = no_number c.args.self.now c.args.number FormulaSort c.in-None.ensures
