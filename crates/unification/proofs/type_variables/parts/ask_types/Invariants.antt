use Rattle.std.proofs.Common.{◌≡◌, ◌+◌, ◌<◌, ℕ, get_or, take}
use Rattle.std.specs.Prelude.{sum_by}
use Rattle.base.specs.TypeData.{BoolType, type_size}
use Rattle.unification.specs.Asks.{Adds, AsksWithin, asks_work}
use Rattle.unification.proofs.type_variables.parts.ask_types.Given as goal

abbrev pub invariant-loop-i : goal.invariant-loop-i
invariant-loop-i l = record {
  adds : Adds l.fn.asks.items (λ t. (j : ℕ) → j < l.i → t (l.first + j) ≡ get_or l.types j BoolType) l.asks.items;
  within : AsksWithin l.variables l.asks.items;
  less : asks_work l.asks.items ≡ asks_work l.fn.asks.items + sum_by type_size (take l.i l.types);
}
