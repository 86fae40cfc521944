-- Concatenated lists of triggers.
use Rattle.std.specs.Prelude.{◌≡◌, List, ◌++◌}
use Rattle.axiom_strategy.specs.declared.askers.Asker.{Asker}

-- such a list is appended
pub record AddsList (old new : List Asker) (IsList : List Asker → Type 0) : Type 0 where
  pub more : List Asker
  pub is : new ≡ old ++ more
  pub has : IsList more

-- two such lists are appended
pub record AddsLists (old new : List Asker) (IsFirst IsSecond : List Asker → Type 0) : Type 0 where
  pub between : List Asker
  pub first : AddsList old between IsFirst
  pub second : AddsList between new IsSecond
