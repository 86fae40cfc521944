use Rattle.std.proofs.Common.{sym, ◌∙◌}
use Rattle.term_pool.specs.Pools.{item_at}
use Rattle.explanations.proofs.CapturedLemmas.{uncaptured_begun, uncaptured_past, uncaptured_next, captured_there}
use Rattle.explanations.proofs.derived.bound.is_uncaptured.Goals.{in-Some+in_ok-captured+else-captured, in_default}
use Rattle.explanations.proofs.derived.bound.is_uncaptured.Goals as goal

pub loop-head-init : goal.loop-head-init
loop-head-init c = uncaptured_begun c.args.way.now (item_at c.args.pool.now c.args.number)

pub returns-then-captured : goal.returns-then-captured
returns-then-captured c =
    captured_there c.args.way.now c.loop-head.head-index _ c.in-Some.variable c.in_ok-captured.captured (item_at c.args.pool.now c.args.number) c.loop-head-test.true (sym c.variable_below.ensures ∙ c.in-Some.is) c.in_ok-captured.ensures c.if-captured.true

pub loop-head-preserved : goal.loop-head-preserved
loop-head-preserved c = elim c.match-variable_below.branch [
  | in-Some+in_ok-captured+else-captured w ↦ uncaptured_next c.args.way.now c.loop-head.head-index _ w.in-Some.variable w.in_ok-captured.captured (item_at c.args.pool.now c.args.number) c.loop-head-test.true (sym c.variable_below.ensures ∙ w.in-Some.is) w.in_ok-captured.ensures w.if-captured.false c.loop-head.invariant
  | in_default w ↦ uncaptured_past c.args.way.now c.loop-head.head-index _ (item_at c.args.pool.now c.args.number) c.loop-head-test.true (sym c.variable_below.ensures ∙ w.in_default.is) c.loop-head.invariant
]
