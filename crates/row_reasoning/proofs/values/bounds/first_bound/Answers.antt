use Rattle.std.proofs.Common.{nat_eq}
use Rattle.indexmap.specs.IndexMap.{get}
use Rattle.row_reasoning.proofs.BoundLemmas.{first_at, asked_push, asked_all}
use Rattle.row_reasoning.proofs.values.bounds.first_bound.Goals as goal

pub returns-in-Some : goal.returns-in-Some
returns-in-Some c = first_at (get nat_eq c.args.numbers.now) c.args.classes.now.keys c.args.values.now c.loop-value.value-index _ c.in-Some.bound c.loop-value-test.true c.loop-value.invariant c.in-Some.ensures

pub loop-value-preserved : goal.loop-value-preserved
loop-value-preserved c = asked_push (get nat_eq c.args.numbers.now) c.args.classes.now.keys c.args.values.now c.loop-value.value-index _ c.loop-value-test.true c.loop-value.invariant c.in_default.ensures

pub returns : goal.returns
returns c = asked_all (get nat_eq c.args.numbers.now) c.args.classes.now.keys c.args.values.now c.loop-value.value-index c.loop-value-test.false c.loop-value.invariant
