-- Replacements of terms on the right side of an equation, one after another.
use Rattle.std.specs.Prelude.{◌≡◌, ℕ, List, [], ◌∷◌, length, slice_get, Option, Some, ◌≤◌}
use Rattle.fol.specs.declared.operators.Comparison.TheVariants.{Eq}
use Rattle.term_pool.specs.Items.{Item, TermSort, formula_in, two_item}
use Rattle.term_pool.specs.Depths.{item_depth}
use Rattle.term_pool.specs.Pools.{item_at, HasPart}
use Rattle.term_pool.specs.declared.node.Node.{Node}
use Rattle.term_pool.specs.declared.node.Two.TheVariants.{Compare}
use Rattle.certificates.specs.BranchesBranch.{Branch}
use Rattle.certificates.specs.Joined.{IsFreeOf}
use Rattle.certificates.specs.Closes.{most_deep}
use Rattle.explanations.specs.Chains.{term_at, ChainData, IsAt, CanBegin}
use Rattle.explanations.specs.Frames.{filled, IsWay, bound_on}
use Rattle.congruence_closure.specs.Numbers.{number_at}
use Rattle.explanations.specs.Routes.{end_of, CanGo}
use Rattle.explanations.specs.declared.derived.replacing.Difference.{Difference}

-- the item before the one term is replaced by the other, and after it
abbrev pub before_it : List Node → List ℕ → Difference → Item
before_it ns numbers d = filled ns d.way.items (item_at ns (number_at numbers d.from))

abbrev pub after_it : List Node → List ℕ → Difference → Item
after_it ns numbers d = filled ns d.way.items (item_at ns (number_at numbers d.to))

-- the context has the sort of a term in its hole, it binds no variable that is free in the two terms, and the depth of
-- the result is within the limit
pub record IsReplacement (ns : List Node) (numbers : List ℕ) (d : Difference) : Type 0 where
  pub leads : IsWay ns d.way.items TermSort
  pub free : IsFreeOf (bound_on d.way.items) (term_at ns (number_at numbers d.from))
  pub other_free : IsFreeOf (bound_on d.way.items) (term_at ns (number_at numbers d.to))
  pub from_term : HasPart ns (length ns) (number_at numbers d.from) TermSort
  pub to_term : HasPart ns (length ns) (number_at numbers d.to) TermSort
  pub low : item_depth (after_it ns numbers d) ≤ most_deep

-- and a route leads from the one term to the other
pub record CanReplace (ns : List Node) (d : ChainData) (numbers : List ℕ) (equations : List (Option ℕ)) (difference : Difference) : Type 0 where
  pub is : IsReplacement ns numbers difference
  pub route : CanGo ns d numbers equations difference.from difference.route.items
  pub ends : end_of difference.from difference.route.items ≡ difference.to

-- the item after all replacements
abbrev pub after_all : List Node → List ℕ → Item → List Difference → Item
after_all ns numbers x [] = x
after_all ns numbers x (d ∷ ds) = after_all ns numbers (after_it ns numbers d) ds

-- each applies to the result of those before it
abbrev pub AreInTurn : List Node → List ℕ → Item → List Difference → Type 0
AreInTurn ns numbers x [] = Unit {0}
AreInTurn ns numbers x (d ∷ ds) = (x ≡ before_it ns numbers d) × AreInTurn ns numbers (after_it ns numbers d) ds

-- they apply to the source formula
pub record CanReplaceAt (ns : List Node) (d : ChainData) (numbers : List ℕ) (equations : List (Option ℕ)) (source : ℕ) (ds : List Difference) : Type 0 where
  pub number : ℕ
  pub found : slice_get d.formulas source ≡ Some number
  pub in_turn : AreInTurn ns numbers (item_at ns number) ds
  pub each : (n : ℕ) (difference : Difference) → slice_get ds n ≡ Some difference → CanReplace ns d numbers equations difference

-- the source formula after all replacements is at the index
pub record IsReplacedAt (ns : List Node) (d : ChainData) (numbers : List ℕ) (source : ℕ) (ds : List Difference) (ms : List Node) (e : ChainData) (position : ℕ) : Type 0 where
  pub at : (number : ℕ) → slice_get d.formulas source ≡ Some number → IsAt ms e position (formula_in (after_all ns numbers (item_at ns number) ds))

-- the reflexivity axiom of each replaced term may be added
pub record CanBeginEach (ns : List Node) (b : Branch) (d : ChainData) (numbers : List ℕ) (ds : List Difference) : Type 0 where
  pub each : (n : ℕ) (difference : Difference) → slice_get ds n ≡ Some difference → CanBegin b d (term_at ns (number_at numbers difference.from))

-- the equation of a term with itself
abbrev pub itself_item : List Node → ℕ → Item
itself_item ns left = two_item (Compare Eq) (item_at ns left) (item_at ns left)

-- they apply to the equation of a term with itself
pub record CanReplaceAll (ns : List Node) (d : ChainData) (numbers : List ℕ) (equations : List (Option ℕ)) (left : ℕ) (ds : List Difference) : Type 0 where
  pub begins : HasPart ns (length ns) left TermSort
  pub in_turn : AreInTurn ns numbers (itself_item ns left) ds
  pub each : (n : ℕ) (difference : Difference) → slice_get ds n ≡ Some difference → CanReplace ns d numbers equations difference

-- each reflexivity axiom that may be needed may be added
pub record CanBeginAll (ns : List Node) (b : Branch) (d : ChainData) (numbers : List ℕ) (left : ℕ) (ds : List Difference) : Type 0 where
  pub itself : CanBegin b d (term_at ns left)
  pub each : (n : ℕ) (difference : Difference) → slice_get ds n ≡ Some difference → CanBegin b d (term_at ns (number_at numbers difference.from))
