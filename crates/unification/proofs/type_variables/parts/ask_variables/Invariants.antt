use Rattle.std.proofs.Common.{◌≡◌, ◌+◌, ◌<◌, ℕ}
use Rattle.unification.specs.Asks.{Adds, AsksWithin, asks_work}
use Rattle.unification.proofs.type_variables.parts.ask_variables.Given as goal

abbrev pub invariant-loop-i : goal.invariant-loop-i
invariant-loop-i l = record {
  adds : Adds l.fn.asks.items (λ t. (j : ℕ) → j < l.i → t (l.first + j) ≡ t (l.other + j)) l.asks.items;
  within : AsksWithin l.variables l.asks.items;
  less : asks_work l.asks.items ≡ asks_work l.fn.asks.items + l.i;
}
