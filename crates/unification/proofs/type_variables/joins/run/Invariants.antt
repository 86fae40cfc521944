use Rattle.std.proofs.Common.{◌+◌, length}
use Rattle.unification.specs.Slots.{Becomes, work}
use Rattle.unification.specs.Asks.{EachHas, AsksWithin, asks_work}
use Rattle.unification.proofs.type_variables.joins.run.Given as goal

abbrev pub invariant-loop-ask : goal.invariant-loop-ask
invariant-loop-ask l = record {
  becomes : Becomes l.fn.slots (λ t. EachHas t l.fn.asks.items) l.slots (λ t. EachHas t l.asks.items);
  asks : AsksWithin (length l.slots) l.asks.items;
}

abbrev pub decreases-loop-ask : goal.decreases-loop-ask
decreases-loop-ask l = work l.slots + asks_work l.asks.items
