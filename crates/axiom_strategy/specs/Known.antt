-- The cached instances of triggers.
use Rattle.std.specs.Prelude.{ℕ, List, [], slice_get, unwrap_or, All}
use Rattle.std.specs.Option.{option_map}
use Rattle.fol.specs.declared.shapes.Shape.{Shape}
use Rattle.term_pool.specs.declared.node.Node.{Node}
use Rattle.axiom_instances.specs.declared.triggered.TriggeredAxiom.{TriggeredAxiom}
use Rattle.axiom_instances.specs.Lists.{ListsAll}
use Rattle.axiom_strategy.specs.declared.askers.Asker.{Asker}
use Rattle.axiom_strategy.specs.Askers.{IsAsker, asks_of}

-- the trigger has numbers of the pool, and its list has exactly the instances that it triggers
pub record IsKept (shapes : List Shape) (ns : List Node) (e : Asker × List TriggeredAxiom) : Type 0 where
  pub asker : IsAsker ns e.0
  pub lists : ListsAll ns e.1 (asks_of shapes ns e.0)

-- the same for each trigger in the cache, under these struct shapes
pub record AreKnownInstances (shapes : List Shape) (ns : List Node) (kept : List (Asker × List TriggeredAxiom)) : Type 0 where
  pub each : All (IsKept shapes ns) kept

-- the list at an index; the empty list for an index past the end
abbrev pub list_at : List (Asker × List TriggeredAxiom) → ℕ → List TriggeredAxiom
list_at kept position = unwrap_or (option_map (λ e. e.1) (slice_get kept position)) []
