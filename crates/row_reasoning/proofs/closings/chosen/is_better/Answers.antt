use Rattle.std.proofs.Common.{nat_eq, nat_lt, refl}
use Rattle.indexmap.specs.IndexMap.{get}
use Rattle.row_reasoning.proofs.ChosenLemmas.{better}
use Rattle.row_reasoning.proofs.closings.chosen.is_better.Goals as goal

pub returns-in-Some : goal.returns-in-Some
returns-in-Some c = better c.args.pool.now (get nat_eq c.args.chosen.now) c.args.class c.args.term c.in-Some.other c.depth.result c.depth-in-Some.result c.in-Some.ensures c.depth.ensures c.depth-in-Some.ensures (nat_lt c.depth.result c.depth-in-Some.result) refl
