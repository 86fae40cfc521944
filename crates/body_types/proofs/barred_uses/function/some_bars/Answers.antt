use Rattle.std.proofs.Common.{length, arith}
use Rattle.unification.specs.Slots.{Meets}
use Rattle.typing_rules.specs.CodeSystems.{function_setting}
use Rattle.typing_rules.specs.Settings.{first_argument}
use Rattle.body_types.specs.Nodes.{NodeBars}
use Rattle.body_types.proofs.Deciding.{is_bad, is_clean, node_at, nodes_within, none_all, none_more, none_yet, some_at, storage_within}
use Rattle.body_types.proofs.barred_uses.function.some_bars.Goals as goal

pub first_of_all-first-requires : goal.first_of_all-first-requires
first_of_all-first-requires c = let all = c.requires.variables in omega (arith, all)

pub node_bars-requires-clause-variable : goal.node_bars-requires-clause-variable
node_bars-requires-clause-variable c =
    let inside = nodes_within c.args.program.now c.args.function.now in
    omega (arith, c.loop-index-test.true, c.requires.read, c.requires.longer, c.requires.variables, inside)

pub node_bars-requires-clause-within : goal.node_bars-requires-clause-within
node_bars-requires-clause-within c = λ is. storage_within c.args.program.now c.args.function.now c.loop-index.index c.loop-index.first c.args.variables (length c.args.facts.slots.now) c.node.result.now
    c.node.ensures.node c.loop-index.invariant.first c.requires.variables c.requires.longer is

pub first_of_next-first-requires-clause-count : goal.first_of_next-first-requires-clause-count
first_of_next-first-requires-clause-count c = c.requires.variables

pub loop-index-init : goal.loop-index-init
loop-index-init c = record {
  first = c.first_of_all-first.ensures c.args.program.now;
  none = none_yet c.args.program.now c.args.function.now c.args.facts.own.now c.args.facts.types.now (Meets c.args.facts.slots.now);
}

pub loop-index-preserved : goal.loop-index-preserved
loop-index-preserved c =
    let at = first_argument (function_setting c.args.program.now c.args.function.now) c.loop-index.index in
    record {
      first = c.first_of_next-first.ensures.next;
      none = none_more c.args.program.now c.args.function.now c.args.facts.own.now c.args.facts.types.now (Meets c.args.facts.slots.now) c.loop-index.index c.node.result.now c.node.ensures.node
          (is_clean (NodeBars c.args.facts.own.now c.args.facts.types.now (Meets c.args.facts.slots.now) at c.node.result.now) c.node_bars.result c.if-node_bars.false
          (node_at c.args.facts.own.now c.args.facts.types.now (Meets c.args.facts.slots.now) c.loop-index.first at c.node.result.now c.node_bars.result c.loop-index.invariant.first c.node_bars.ensures))
          c.loop-index.invariant.none;
    }

pub returns-then-node_bars-clause-some : goal.returns-then-node_bars-clause-some
returns-then-node_bars-clause-some c e =
    let at = first_argument (function_setting c.args.program.now c.args.function.now) c.loop-index.index in
    some_at c.args.program.now c.args.function.now c.args.facts.own.now c.args.facts.types.now (Meets c.args.facts.slots.now) c.loop-index.index c.args.read c.node.result.now c.loop-index-test.true c.node.ensures.node c.node.ensures.below
    (is_bad (NodeBars c.args.facts.own.now c.args.facts.types.now (Meets c.args.facts.slots.now) at c.node.result.now) c.node_bars.result c.if-node_bars.true
    (node_at c.args.facts.own.now c.args.facts.types.now (Meets c.args.facts.slots.now) c.loop-index.first at c.node.result.now c.node_bars.result c.loop-index.invariant.first c.node_bars.ensures))

pub returns-clause-no : goal.returns-clause-no
returns-clause-no c e = none_all c.args.program.now c.args.function.now c.args.facts.own.now c.args.facts.types.now (Meets c.args.facts.slots.now) c.loop-index.index c.args.read (omega arith) c.loop-index.invariant.none
