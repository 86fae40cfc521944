use Rattle.std.proofs.Common.{◌≡◌, length, take}
use Rattle.tableau.specs.Logs.{IsIndexed}
use Rattle.tableau.proofs.log.Log.truncate.Given as goal

abbrev pub invariant-loop-self : goal.invariant-loop-self
invariant-loop-self l = record {
  indexed : IsIndexed l.self-inside.changes.items l.self-inside.values.items;
  same : take l.count l.self-inside.changes.items ≡ take l.count l.fn.self;
}

abbrev pub decreases-loop-self : goal.decreases-loop-self
decreases-loop-self l = length l.self-inside.changes.items
