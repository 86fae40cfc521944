use Rattle.std.proofs.Common.{take, nat_eq}
use Rattle.std.specs.Prelude.{All}
use Rattle.indexmap.specs.IndexMap.{get}
use Rattle.row_reasoning.specs.Bounds.{AsksNone}
use Rattle.row_reasoning.proofs.values.bounds.first_bound.Given as goal

abbrev pub invariant-loop-value : goal.invariant-loop-value
invariant-loop-value l = All (AsksNone (get nat_eq l.numbers) l.classes.keys) (take l.value-index l.values)
