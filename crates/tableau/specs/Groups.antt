-- Groups of aliasing memories and vectors.
use Rattle.std.specs.Prelude.{◌≡◌, ◌↔◌, ℕ, ◌<◌, List, length, slice_index, Option, Some, None}
use Rattle.fol.specs.declared.operators.Unary.TheVariants.{Pop}
use Rattle.fol.specs.declared.operators.Binary.TheVariants.{Push}
use Rattle.term_pool.specs.declared.node.One.TheVariants.{Unary}
use Rattle.term_pool.specs.declared.node.Two.TheVariants.{Binary}
use Rattle.term_pool.specs.declared.node.Three.TheVariants.{Ternary}
use Rattle.term_pool.specs.declared.node.Node.{Node}
use Rattle.term_pool.specs.declared.node.Node.TheVariants.{One as OneNode, Two as TwoNode, Three as ThreeNode}
use Rattle.certificates.specs.BranchesBranch.{Branch}
use Rattle.certificates.specs.Decisions.{IsNear}
use Rattle.tableau.specs.Terms.{term_at, IsBranchTerm}

-- the memory or vector that a term updates (`Store`, `Set`, `Push`, `Pop`)
abbrev pub changed : Node → Option ℕ
changed (OneNode (Unary Pop) v) = Some v
changed (TwoNode (Binary Push) v x) = Some v
changed (ThreeNode (Ternary o) m a v) = Some m
changed _ = None

-- a group number for each number of the pool: two terms of the branch have the same one exactly when they alias
pub record AreGroups (ns : List Node) (b : Branch) (groups : List ℕ) : Type 0 where
  pub one_each : length groups ≡ length ns
  pub within : (i : ℕ) → i < length ns → slice_index groups i < length ns
  pub exact : (i j : ℕ) → IsBranchTerm ns b i → IsBranchTerm ns b j → (slice_index groups i ≡ slice_index groups j) ↔ IsNear b (term_at ns i) (term_at ns j)
