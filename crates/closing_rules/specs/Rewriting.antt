-- Replacement of terms by equal ones in a formula of an explanation, one after another.
use Rattle.std.specs.Prelude.{◌≡◌, ℕ, List, slice_get, slice_index_or, Option, Some}
use Rattle.term_pool.specs.Items.{Item}
use Rattle.term_pool.specs.Pools.{item_at}
use Rattle.term_pool.specs.declared.node.Node.{Node}
use Rattle.certificates.specs.BranchesBranch.{Branch}
use Rattle.explanations.specs.Chains.{term_at, ChainData, CanBegin}
use Rattle.explanations.specs.Replacing.{CanReplace, AreInTurn}
use Rattle.congruence_closure.specs.Numbers.{number_at}
use Rattle.explanations.specs.declared.derived.replacing.Difference.{Difference}

-- the formula at the index
abbrev pub source_item : List Node → ChainData → ℕ → Item
source_item ns d position = item_at ns (slice_index_or d.formulas position 0)

-- the differences can be replaced in it
pub record CanRewrite (ns : List Node) (d : ChainData) (numbers : List ℕ) (equations : List (Option ℕ)) (source : ℕ) (ds : List Difference) : Type 0 where
  pub in_turn : AreInTurn ns numbers (source_item ns d source) ds
  pub each : (n : ℕ) (difference : Difference) → slice_get ds n ≡ Some difference → CanReplace ns d numbers equations difference

-- each term whose equation with itself may be needed occurs in an entry
pub record CanBeginEach (ns : List Node) (b : Branch) (d : ChainData) (numbers : List ℕ) (ds : List Difference) : Type 0 where
  pub each : (n : ℕ) (difference : Difference) → slice_get ds n ≡ Some difference → CanBegin b d (term_at ns (number_at numbers difference.from))
