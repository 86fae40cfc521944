use Rattle.std.proofs.Common.{◌+◌, arith}
use Rattle.type_constraints.proofs.Variables.{first_within, next_first}
use Rattle.type_constraints.proofs.typed_nodes.first.first_of_next.Goals as goal

pub overflow_add-result : goal.overflow_add-result
overflow_add-result c =
    let next = next_first c.args.program.now c.args.function.now c.args.index c.node.result.now c.node.ensures.node in
    let end = first_within c.args.program.now c.args.function.now (c.args.index + 1) in
    let arity = c.node_arity-arity.ensures in
    omega (arith, next, end, arity)

pub returns-clause-next : goal.returns-clause-next
returns-clause-next c =
    let next = next_first c.args.program.now c.args.function.now c.args.index c.node.result.now c.node.ensures.node in
    let arity = c.node_arity-arity.ensures in
    omega (arith, next, arity)

pub returns-clause-within : goal.returns-clause-within
returns-clause-within c =
    let next = next_first c.args.program.now c.args.function.now c.args.index c.node.result.now c.node.ensures.node in
    let end = first_within c.args.program.now c.args.function.now (c.args.index + 1) in
    let arity = c.node_arity-arity.ensures in
    omega (arith, next, end, arity)
