use Rattle.std.proofs.Common.{Vec, ◌∙◌, ap, arith}
use Rattle.std.proofs.lemmas.Bool.{le-ltb}
use Rattle.base.specs.declared.marked_cycles.edge.MarkedEdge.{MarkedEdge}
use Rattle.typing_rules.specs.CodeSystems.{function_setting}
use Rattle.ability_rules.specs.Edges.{at_node}
use Rattle.ability_rules.proofs.Pieces.{one_more}
use Rattle.ability_rules.proofs.Making.{node_more, node_none}
use Rattle.ability_rules.proofs.Variables.{arguments_within, next_argument}
use Rattle.ability_rules.proofs.polymorphic_recursion.edges.push_nodes.Goals as goal
use Rattle.ability_rules.proofs.polymorphic_recursion.edges.push_nodes.Goals.{then-number-known+in_ok-push_node, else-number-known}

pub push_node-requires-clause-variables : goal.push_node-requires-clause-variables
push_node-requires-clause-variables c =
    let setting = function_setting c.args.all.program.now c.args.function.now in
    let fits = arguments_within setting c.loop-number.number c.node-node.result.now c.node-node.ensures.node in
    let variables = c.requires.known.variables in
    let first = c.loop-number.invariant.1 in
    omega (arith, fits, variables, first)

pub loop-number-preserved : goal.loop-number-preserved
loop-number-preserved c =
    let program = c.args.all.program.now in
    let rows = c.args.all.rows.now in
    let row = c.args.row in
    let f = c.args.function.now in
    let p = c.args.known in
    let n = c.loop-number.number in
    let node = c.node-node.result.now in
    let at = c.node-node.ensures.node in
    let first = c.loop-number.invariant.1 in
    let next = next_argument (function_setting program f) n node at in
    let start = c.args.into.now.items in
    let now = c.loop-number.into.items in
    let piece = at_node program rows row f p in
    let arity = c.node_arity.ensures in
    let sum = c.in-Some.ensures in (
      (elim c.if-number-known.branch [
        | then-number-known+in_ok-push_node w ↦
            one_more piece n start now c.if-number-known.into.items c.loop-number.invariant.0
            (ap (λ (v : Vec MarkedEdge _). v.items) w.into-is ∙ node_more program rows row f p n node c.loop-number.first now w.push_node.new.into.items at w.if-number-known.true first w.in_ok-push_node.ensures)
        | else-number-known w ↦
            one_more piece n start now c.if-number-known.into.items c.loop-number.invariant.0
            (ap (λ (v : Vec MarkedEdge _). v.items) w.into-is ∙ node_none program rows row f p n now (le-ltb _ _ w.if-number-known.false))
      ]),
      omega (arith, next, first, arity, sum),
    )
