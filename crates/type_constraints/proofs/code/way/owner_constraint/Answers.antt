use Rattle.std.proofs.Common.{◌∷◌, [], sym, ◌∙◌, ap}
use Rattle.typing_rules.specs.Constraint.{Constraint}
use Rattle.type_constraints.specs.Ways.{otherwise}
use Rattle.type_constraints.proofs.Ways.{way_ends}
use Rattle.type_constraints.proofs.code.way.owner_constraint.Goals as goal

pub returns-in-None : goal.returns-in-None
returns-in-None c =
    sym c.loop-next.invariant.same
    ∙ way_ends (otherwise c.args.behind) c.args.body.now.nodes c.loop-next.left c.loop-next.at c.node-node.result.now c.node-node.ensures.node (sym c.in-None.ensures)
    ∙ ap (λ (d : Constraint). d ∷ []) (sym c.base_of.ensures)
