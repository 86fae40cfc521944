use Rattle.std.proofs.Common.{arith}
use Rattle.closing_rules.proofs.FormLemmas.{holds_nothing, held_within, false_answer}
use Rattle.closing_rules.proofs.clashes.forms.holds_false.Goals as goal

pub returns-in_default : goal.returns-in_default
returns-in_default c = absurd (let w = c.in_default.ensures in let v = c.requires.within in omega (arith, w, v))

pub returns-in_default-held_part : goal.returns-in_default-held_part
returns-in_default-held_part c = holds_nothing c.args.pool.now c.args.formula c.in-Some.node c.in-Some.ensures c.in_default-held_part.ensures

pub returns-in_default-node : goal.returns-in_default-node
returns-in_default-node c = absurd (
    let w = held_within c.args.pool.now c.args.formula c.in-Some-held_part.term c.in-Some.node c.in-Some.ensures c.in-Some-held_part.ensures in
    let v = c.in_default-node.ensures in
    omega (arith, w, v))

pub returns : goal.returns
returns c =
    false_answer c.args.pool.now c.args.formula c.in-Some-held_part.term c.in-Some.node c.in-Some-node.held c.in-Some.ensures c.in-Some-held_part.ensures c.in-Some-node.ensures c.is_false_node.result c.is_false_node.ensures
