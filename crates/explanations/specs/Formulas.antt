-- Formulas that are equal up to the classes: the one becomes the other by replacing terms by equal ones.
use Rattle.std.specs.Prelude.{◌≡◌, ℕ, ◌<◌, ◌≤◌, List, length, slice_get, Some}
use Rattle.certificates.specs.Closes.{most_deep}
use Rattle.term_pool.specs.Items.{FormulaSort}
use Rattle.term_pool.specs.Depths.{item_depth}
use Rattle.term_pool.specs.Pools.{item_at, HasPart}
use Rattle.term_pool.specs.declared.node.Leaf.TheVariants.{TypeParam}
use Rattle.term_pool.specs.declared.node.Node.{Node}
use Rattle.term_pool.specs.declared.node.Node.TheVariants.{Leaf as LeafNode}
use Rattle.congruence_closure.specs.declared.classes.link.Link.{Link}
use Rattle.explanations.specs.Chains.{ChainData}
use Rattle.congruence_closure.specs.Numbers.{number_at}
use Rattle.explanations.specs.Replacing.{AreInTurn}
use Rattle.explanations.specs.Positions.{IsDifference}
use Rattle.explanations.specs.declared.derived.replacing.Difference.{Difference}

-- the node is a formula, no deeper than a step may add
pub record IsFormulaNode (pool ns : List Node) (numbers : List ℕ) (i : ℕ) : Type 0 where
  pub within : i < length ns
  pub formula : HasPart pool (length pool) (number_at numbers i) FormulaSort
  pub no_parameter : (n : ℕ) → slice_get ns i ≡ Some (LeafNode (TypeParam n)) → ⊥
  pub low : item_depth (item_at pool (number_at numbers i)) ≤ most_deep

-- the replacements apply one after another to the source formula
pub record AreInSource (pool ns : List Node) (ls : List Link) (numbers : List ℕ) (d : ChainData) (source : ℕ) (ds : List Difference) : Type 0 where
  pub number : ℕ
  pub found : slice_get d.formulas source ≡ Some number
  pub inside : number < length pool
  pub in_turn : AreInTurn pool numbers (item_at pool number) ds
  pub each : (n : ℕ) (difference : Difference) → slice_get ds n ≡ Some difference → IsDifference pool ns ls numbers (length ls) difference
