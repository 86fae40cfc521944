use Rattle.std.proofs.Common.{sym, arith}
use Rattle.tableau.proofs.WholeNumberLemmas.{not_typed, not_num, is_said, typed_within}
use Rattle.tableau.proofs.whole_numbers.number_said.Goals as goal

pub returns-in_default : goal.returns-in_default
returns-in_default c = λ t e. absurd (let w = c.in_default.ensures in let v = c.requires.within in omega (arith, w, v))

pub returns-in_default-typed_parts : goal.returns-in_default-typed_parts
returns-in_default-typed_parts c = not_typed c.args.pool.now c.args.formula c.in-Some.node c.in-Some.ensures c.requires (sym c.in_default-typed_parts.ensures)

pub returns-in_default-node : goal.returns-in_default-node
returns-in_default-node c = λ t e. absurd (
    let w = typed_within c.args.pool.now c.args.formula c.in-Some.node (c.in-Some-typed_parts.of, c.in-Some-typed_parts.term) c.in-Some.ensures c.requires.within (sym c.in-Some-typed_parts.ensures) in
    let v = c.in_default-node.ensures in
    omega (arith, w, v))

pub returns-then-is_num_node : goal.returns-then-is_num_node
returns-then-is_num_node c =
    is_said c.args.pool.now c.args.formula c.in-Some.node (c.in-Some-typed_parts.of, c.in-Some-typed_parts.term) c.in-Some-node.of_node c.in-Some.ensures c.requires (sym c.in-Some-typed_parts.ensures) c.in-Some-node.ensures (sym c.if-is_num_node.ensures)

pub returns : goal.returns
returns c =
    not_num c.args.pool.now c.args.formula c.in-Some.node (c.in-Some-typed_parts.of, c.in-Some-typed_parts.term) c.in-Some-node.of_node c.in-Some.ensures c.requires (sym c.in-Some-typed_parts.ensures) c.in-Some-node.ensures (sym c.if-is_num_node.ensures)
