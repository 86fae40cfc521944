use Rattle.std.proofs.Common.{arith}
use Rattle.std.proofs.lemmas.Bool.{both_ways}
use Rattle.type_constraints.proofs.Variables.{storage_within}
use Rattle.ability_rules.proofs.RequiredFunctions.{node_answer}
use Rattle.ability_rules.proofs.required.function.next_if_able.Goals as goal

pub node_lacks-asks-requires-clause-first : goal.node_lacks-asks-requires-clause-first
node_lacks-asks-requires-clause-first c = λ is.
    (let body = c.requires.judged in
    let start = c.requires.first in
    let within = storage_within c.args.program.now c.args.function.now body.types c.args.judged.variables.now body.typed c.args.index c.node-node.result.now c.node-node.ensures.node is in
    omega (arith, start, within))

pub returns-then-asks-argues : goal.returns-then-asks-argues
returns-then-asks-argues c =
    (node_answer c.args.program.now c.args.function.now c.args.judged.variables.now c.args.judged.table.now c.requires.judged c.args.index c.node-node.result.now c.node-node.ensures.node c.node-node.ensures.below c.args.first c.first_of_next-next.result c.args.params.now c.node_parameters.result.now c.requires.first c.first_of_next-next.ensures.next c.requires.params c.node_parameters.ensures c.node_lacks-asks.result c.lacks_argument-argues.result c.writes_lacking-writes.result c.node_lacks-asks.ensures c.lacks_argument-argues.ensures c.writes_lacking-writes.ensures).0 c.if-asks-argues.true

pub returns-else-asks-argues : goal.returns-else-asks-argues
returns-else-asks-argues c = record {
  able = λ h. both_ways _ c.if-asks-argues.false ((node_answer c.args.program.now c.args.function.now c.args.judged.variables.now c.args.judged.table.now c.requires.judged c.args.index c.node-node.result.now c.node-node.ensures.node c.node-node.ensures.below c.args.first c.first_of_next-next.result c.args.params.now c.node_parameters.result.now c.requires.first c.first_of_next-next.ensures.next c.requires.params c.node_parameters.ensures c.node_lacks-asks.result c.lacks_argument-argues.result c.writes_lacking-writes.result c.node_lacks-asks.ensures c.lacks_argument-argues.ensures c.writes_lacking-writes.ensures).1 h);
  next_is = c.first_of_next-next.ensures.next;
}
