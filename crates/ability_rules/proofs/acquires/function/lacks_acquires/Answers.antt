use Rattle.std.proofs.Common.{◌∙◌, arith}
use Rattle.std.proofs.lemmas.Bool.{both_ways}
use Rattle.typing_rules.specs.Pools.{types}
use Rattle.type_constraints.proofs.Variables.{count, nodes_within, storage_within}
use Rattle.ability_rules.proofs.AcquiresFunctions.{lacks_found, lacks_nothing, more_clear, node_step, none_clear, none_looked}
use Rattle.ability_rules.proofs.acquires.function.lacks_acquires.Goals as goal

pub first_of_all-first-requires : goal.first_of_all-first-requires
first_of_all-first-requires c =
    let all = nodes_within c.args.program.now c.args.function.now (types c.args.pool.now) c.args.variables.now c.requires.typed in
    omega (arith, all)

pub node_lacks-requires-clause-first : goal.node_lacks-requires-clause-first
node_lacks-requires-clause-first c = λ is.
    (let start = c.loop-index.invariant.first in
    let within = storage_within c.args.program.now c.args.function.now (types c.args.pool.now) c.args.variables.now c.requires.typed c.loop-index.index c.node.result.now c.node.ensures.node is in
    omega (arith, start, within))

pub first_of_next-first-requires-clause-count : goal.first_of_next-first-requires-clause-count
first_of_next-first-requires-clause-count c = count c.args.program.now c.args.function.now (types c.args.pool.now) c.args.variables.now c.requires.typed

pub loop-index-init : goal.loop-index-init
loop-index-init c = record {
  first = c.first_of_all-first.ensures c.args.program.now;
  clear = none_clear c.args.program.now c.args.id.now c.args.function.now c.args.pool.now c.args.variables.now;
  looked = none_looked c.args.program.now c.args.id.now c.args.function.now c.args.pool.now c.args.variables.now c.new-seen.result c.new-seen.ensures;
}

pub loop-index-preserved : goal.loop-index-preserved
loop-index-preserved c =
    let step = node_step c.args.program.now c.args.id.now c.args.function.now c.args.pool.now c.args.variables.now c.in_ok-own.own c.in_ok-listed.listed c.as_slice.result.now c.loop-index.seen c.node_lacks.new.seen
    c.loop-index.index c.loop-index.first c.node.result.now c.in_ok-lacks.lacks c.in_ok-lacks.ensures (c.in_ok-own.ensures ∙ c.of_function.ensures) c.in_ok-listed.ensures c.as_slice.ensures c.loop-index.invariant.looked
    c.loop-index.invariant.first in
    record {
      first = c.first_of_next-first.ensures.next;
      clear = more_clear c.args.program.now c.args.id.now c.args.function.now c.args.pool.now c.args.variables.now c.loop-index.index c.node.result.now c.node.ensures.node
          (λ h. both_ways c.in_ok-lacks.lacks c.if-lacks.false (step.answer.1 h)) c.loop-index.invariant.clear;
      looked = step.looked c.if-lacks.false;
    }

pub returns-then-lacks : goal.returns-then-lacks
returns-then-lacks c =
    let step = node_step c.args.program.now c.args.id.now c.args.function.now c.args.pool.now c.args.variables.now c.in_ok-own.own c.in_ok-listed.listed c.as_slice.result.now c.loop-index.seen c.node_lacks.new.seen
    c.loop-index.index c.loop-index.first c.node.result.now c.in_ok-lacks.lacks c.in_ok-lacks.ensures (c.in_ok-own.ensures ∙ c.of_function.ensures) c.in_ok-listed.ensures c.as_slice.ensures c.loop-index.invariant.looked
    c.loop-index.invariant.first in
    lacks_found c.args.program.now c.args.id.now c.args.function.now c.args.pool.now c.args.variables.now c.requires.typed c.loop-index.index c.node.result.now c.node.ensures.node (step.answer.0 c.if-lacks.true)

pub returns : goal.returns
returns c = lacks_nothing c.args.program.now c.args.id.now c.args.function.now c.args.pool.now c.args.variables.now c.requires.typed c.loop-index.index (omega arith) c.loop-index.invariant.clear
