-- Lists of the numbers with a property.
use Rattle.std.specs.Prelude.{◌↔◌, ℕ, List}
use Rattle.term_pool.specs.declared.node.Node.{Node}
use Rattle.ematching.specs.Numbers.{IsAmong}
use Rattle.ematching.specs.Heads.{IsIndexOf}
use Rattle.ematching.specs.declared.heads.HeadIndex.{HeadIndex}

pub record AreThose (P : ℕ → Type 0) (numbers : List ℕ) : Type 0 where
  pub each : (n : ℕ) → IsAmong n numbers ↔ P n

-- the index of some pool
pub record IsSomeIndex (d : HeadIndex) : Type 0 where
  pub nodes : List Node
  pub index : IsIndexOf nodes d
