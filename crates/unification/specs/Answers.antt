-- The results of functions over the first so many pairs.
use Rattle.std.specs.Prelude.{ℕ, Bool, true, false, List}
use Rattle.unification.specs.declared.pairs.TypePair.{TypePair}
use Rattle.unification.specs.Unifiers.{HasUnifier, HasNoUnifier}

abbrev pub SolvableSays : ℕ → List TypePair → Bool → Type 0
SolvableSays n pairs true = HasUnifier n pairs
SolvableSays n pairs false = HasNoUnifier n pairs
