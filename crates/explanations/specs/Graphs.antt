-- Nodes of classes with the edges of the proof forest between them, and the number of each node in a pool.
use Rattle.std.specs.Prelude.{◌≡◌, ℕ, ◌+◌, ◌<◌, ◌≤◌, List, [], length, slice_get, Some}
use Rattle.fol.specs.Depth.{term_depth}
use Rattle.certificates.specs.Closes.{most_deep}
use Rattle.term_pool.specs.Items.{TermSort, sort_of}
use Rattle.term_pool.specs.Pools.{item_at, HasPart}
use Rattle.term_pool.specs.declared.node.Leaf.TheVariants.{TypeParam}
use Rattle.term_pool.specs.declared.node.Node.{Node}
use Rattle.term_pool.specs.declared.node.Node.TheVariants.{Leaf as LeafNode}
use Rattle.congruence_closure.specs.Congruence.{IsWithin}
use Rattle.congruence_closure.specs.Links.{AreShown}
use Rattle.congruence_closure.specs.declared.classes.link.Equation.{Equation}
use Rattle.congruence_closure.specs.declared.classes.link.Link.{Link}
use Rattle.explanations.specs.Chains.{term_at}
use Rattle.congruence_closure.specs.Numbers.{number_at, IsNumbered}
use Rattle.explanations.specs.BoundNodes.{IsClosed, FitsUnder}

-- the node is a term
pub record IsTermNode (pool ns : List Node) (numbers : List ℕ) (i : ℕ) : Type 0 where
  pub term : HasPart pool (length pool) (number_at numbers i) TermSort
  pub no_parameter : (n : ℕ) → slice_get ns i ≡ Some (LeafNode (TypeParam n)) → ⊥

-- each node has a number, and each occurrence that a quantifier binds is a bound variable node; parts justify the
-- edges, or equations of terms in which no bound variable is free; and the depth of the equation of a term with
-- another one is within the limit
pub record IsGraph (pool ns : List Node) (ls : List Link) (numbers : List ℕ) : Type 0 where
  pub long : length numbers ≡ length ns
  pub inside : (i : ℕ) → i < length ns → number_at numbers i < length pool
  pub numbered : (i : ℕ) → i < length ns → IsNumbered pool ns numbers i
  pub parts : (i : ℕ) (n : Node) → slice_get ns i ≡ Some n → IsWithin (length ns) n
  pub among : (k : ℕ) (l : Link) → slice_get ls k ≡ Some l → (l.left < length ns) × (l.right < length ns)
  pub fits : (i : ℕ) → i < length ns → FitsUnder ns [] i
  pub low : (i : ℕ) → i < length ns → sort_of (item_at pool (number_at numbers i)) ≡ TermSort → 1 + term_depth (term_at pool (number_at numbers i)) ≤ most_deep
  pub equations : List Equation
  pub left : (k : ℕ) (e : Equation) → slice_get equations k ≡ Some e → IsTermNode pool ns numbers e.left
  pub right : (k : ℕ) (e : Equation) → slice_get equations k ≡ Some e → IsTermNode pool ns numbers e.right
  pub left_closed : (k : ℕ) (e : Equation) → slice_get equations k ≡ Some e → IsClosed ns e.left
  pub right_closed : (k : ℕ) (e : Equation) → slice_get equations k ≡ Some e → IsClosed ns e.right
  pub shown : AreShown ns equations ls
