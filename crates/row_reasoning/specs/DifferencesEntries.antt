-- Entries, and the same entries with the chosen terms.
use Rattle.std.specs.Prelude.{◌≡◌, ℕ, Bool, true, false, List, [], ◌∷◌, length, slice_get, Option, Some}
use Rattle.fol.specs.declared.operators.Comparison.{Comparison}
use Rattle.fol.specs.FormulaData.{TermData, CompareFormula}
use Rattle.term_pool.specs.Items.{formula_in}
use Rattle.term_pool.specs.Pools.{item_at, IsMade}
use Rattle.term_pool.specs.declared.node.One.TheVariants.{Not}
use Rattle.term_pool.specs.declared.node.Two.{Two}
use Rattle.term_pool.specs.declared.node.Two.TheVariants.{Compare}
use Rattle.term_pool.specs.declared.node.Node.{Node}
use Rattle.term_pool.specs.declared.node.Node.TheVariants.{One as OneNode}
use Rattle.certificates.specs.Due.{IsShallow}
use Rattle.certificates.specs.Rows.{over, comparison_with}
use Rattle.tableau.specs.PoolBranches.{IsFormulaNumber}
use Rattle.congruence_closure.specs.Known.{BranchClassesData}
use Rattle.explanations.specs.Chains.{formula_at}
use Rattle.explanations.specs.declared.frame.Frame.{Frame}
use Rattle.explanations.specs.declared.frame.Frame.TheVariants.{Only}
use Rattle.explanations.specs.Replacing.{after_all, AreInTurn}
use Rattle.explanations.specs.Positions.{IsDifference}
use Rattle.explanations.specs.declared.derived.replacing.Difference.{Difference}
use Rattle.row_reasoning.specs.Chosen.{with_chosen}
use Rattle.row_reasoning.specs.StandIns.{AreOverClasses}
use Rattle.row_reasoning.specs.DifferencesSums.{IsPair, IsChosenSum}
use Rattle.row_reasoning.specs.declared.differences.shape.Pair.{Pair}
use Rattle.row_reasoning.specs.declared.differences.entry.Sides.{Sides}

-- ---- comparisons

abbrev pub is_comparison : Two → Bool
is_comparison (Compare o) = true
is_comparison _ = false

-- the number is that of a comparison of these terms
pub record IsCompared (ns : List Node) (n : ℕ) (p : Pair) : Type 0 where
  pub operator : Comparison
  pub head : p.head ≡ Compare operator
  pub made : IsPair ns n p

pub record IsNotCompared (ns : List Node) (n : ℕ) : Type 0 where
  pub none : (o : Comparison) (t u : TermData) → formula_at ns n ≡ CompareFormula o t u → ⊥

-- the formula is the comparison with this number, or its negation
abbrev pub IsWith : List Node → ℕ → Bool → ℕ → Type 0
IsWith ns n false inner = n ≡ inner
IsWith ns n true inner = IsMade ns n (OneNode Not inner)

pub record IsComparison (ns : List Node) (n : ℕ) (s : Sides) : Type 0 where
  pub inner : ℕ
  pub compared : IsCompared ns inner s.pair
  pub whole : IsWith ns n s.is_denied inner

-- the formula is neither a comparison nor the negation of one
pub record IsNoComparison (ns : List Node) (n : ℕ) : Type 0 where
  pub same : (side : TermData → TermData) → comparison_with side (formula_at ns n) ≡ formula_at ns n

abbrev pub way_to : Bool → List Frame
way_to false = []
way_to true = Only Not ∷ []

-- ---- what an entry becomes

-- the formula is deeper than a step may add
pub record IsDeep (ns : List Node) (n : ℕ) : Type 0 where
  pub deep : IsShallow (formula_at ns n) → ⊥

-- the formula has these sides, and the others are to replace them
pub record AreSidesOf (ns : List Node) (c : BranchClassesData) (names : List ℕ) (find : ℕ → Option ℕ) (n : ℕ) (s : Sides) (q : Pair) : Type 0 where
  pub formula : IsFormulaNumber ns n
  pub comparison : IsComparison ns n s
  pub first : IsChosenSum ns c names find s.pair.first q.first
  pub second : IsChosenSum ns c names find s.pair.second q.second

-- the differences transform the formula into the same formula with the chosen term for each unknown of its sides
pub record MakeChosen (ns : List Node) (c : BranchClassesData) (names : List ℕ) (find : ℕ → Option ℕ) (n : ℕ) (ds : List Difference) : Type 0 where
  pub in_turn : AreInTurn ns c.numbers (item_at ns n) ds
  pub each : (k : ℕ) (d : Difference) → slice_get ds k ≡ Some d → IsDifference ns c.classes.nodes c.classes.links c.numbers (length c.classes.links) d
  pub ends : (class : TermData → ℕ) (chosen : ℕ → TermData) → AreOverClasses ns c names find n class chosen → formula_in (after_all ns c.numbers (item_at ns n) ds) ≡ comparison_with (with_chosen chosen) (comparison_with (over class) (formula_at ns n))
