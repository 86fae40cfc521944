-- The state that the checks of single applications keep is right.
use Rattle.std.specs.Prelude.{List}
use Rattle.term_pool.specs.declared.node.Node.{Node}
use Rattle.tableau.specs.declared.entry.PoolEntry.{PoolEntry}
use Rattle.tableau.specs.Variables.{AreAbove}
use Rattle.ematching.specs.Heads.{IsIndex}
use Rattle.ematching.specs.QuantifierFree.{AreFree}
use Rattle.tableau.specs.States.{IsState}
use Rattle.tree_checks.specs.declared.grown.keeping.Kept.{Kept}

-- the variables are those of the entries, and the rest is right for the pool
pub record IsKept (ns : List Node) (es : List PoolEntry) (k : Kept) : Type 0 where
  pub above : AreAbove ns es k.variables
  pub state : IsState ns k.state
  pub heads : IsIndex ns k.heads
  pub quantifiers : AreFree ns k.quantifiers
