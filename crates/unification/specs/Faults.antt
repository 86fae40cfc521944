-- The faults of unification.
use Rattle.std.specs.Prelude.{ℕ, List}
use Rattle.unification.specs.declared.pairs.TypePair.{TypePair}
use Rattle.unification.specs.declared.unify.UnifyFault.{UnifyFault}
use Rattle.unification.specs.declared.unify.UnifyFault.TheVariants.{NoMemory, Clash}
use Rattle.unification.specs.Unifiers.{IsFirstClash}

abbrev pub FaultSays : ℕ → List TypePair → UnifyFault → Type 0
FaultSays n pairs NoMemory = Unit {0}
FaultSays n pairs (Clash k) = IsFirstClash n k pairs
