use Rattle.row_reasoning.specs.Shapes.{term_at}
use Rattle.row_reasoning.proofs.ChosenLemmas.{holds, never, left_numeral, right_numeral}
use Rattle.row_reasoning.proofs.closings.chosen.has_no_numeral.Goals as goal

pub returns-then-is_numeral : goal.returns-then-is_numeral
returns-then-is_numeral c = never (left_numeral (term_at c.args.pool.now c.args.left) (term_at c.args.pool.now c.args.right) c.if-is_numeral.ensures)

pub returns-then-is_numeral-2 : goal.returns-then-is_numeral-2
returns-then-is_numeral-2 c = never (right_numeral (term_at c.args.pool.now c.args.left) (term_at c.args.pool.now c.args.right) c.if-is_numeral-2.ensures)

pub returns : goal.returns
returns c = holds (c.if-is_numeral.ensures, c.if-is_numeral-2.ensures)
