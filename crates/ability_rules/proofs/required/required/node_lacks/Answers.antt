use Rattle.std.proofs.Common.{sym, ap, ◌∙◌}
use Rattle.program.specs.CodeNodes.{CodeNode}
use Rattle.ability_rules.specs.Bodies.{node_lacks, judged_variable}
use Rattle.ability_rules.proofs.required.required.node_lacks.Goals as goal

pub returns-in-Leaf : goal.returns-in-Leaf
returns-in-Leaf c =
    c.leaf_lacks.ensures c.args.nodes.now.nodes c.args.first
    ∙ sym (ap (λ (x : CodeNode). node_lacks (judged_variable c.args.judged.table.now c.args.judged.variables.now) c.args.nodes.now.nodes c.args.variable c.args.first x) c.in-Leaf.is)

pub returns-in-Unary : goal.returns-in-Unary
returns-in-Unary c =
    c.unary_lacks.ensures c.args.first
    ∙ sym (ap (λ (x : CodeNode). node_lacks (judged_variable c.args.judged.table.now c.args.judged.variables.now) c.args.nodes.now.nodes c.args.variable c.args.first x) c.in-Unary.is)

pub returns-in-Binary : goal.returns-in-Binary
returns-in-Binary c =
    c.binary_lacks.ensures c.args.variable c.args.first
    ∙ sym (ap (λ (x : CodeNode). node_lacks (judged_variable c.args.judged.table.now c.args.judged.variables.now) c.args.nodes.now.nodes c.args.variable c.args.first x) c.in-Binary.is)
