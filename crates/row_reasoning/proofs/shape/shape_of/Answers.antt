use Rattle.std.proofs.Common.{sym, subst}
use Rattle.row_reasoning.specs.Shapes.{IsShape}
use Rattle.row_reasoning.proofs.ShapeLemmas.{shape_made, shape_past}
use Rattle.row_reasoning.proofs.shape.shape_of.Goals as goal

pub returns-in-Some : goal.returns-in-Some
returns-in-Some c = subst (IsShape c.args.pool.now c.args.number) (sym c.node_shape.ensures) (shape_made c.args.pool.now c.args.number c.in-Some.node c.in-Some.ensures)

pub returns-in-None : goal.returns-in-None
returns-in-None c = shape_past c.args.pool.now c.args.number c.in-None.ensures
