-- Terms as sums, with the chosen term for each unknown, by number.
use Rattle.std.specs.Prelude.{◌≡◌, ℕ, ◌≤◌, List, length, Option, Some, None}
use Rattle.fol.specs.declared.operators.Binary.{Binary as BinaryOperator}
use Rattle.term_pool.specs.Pools.{IsMade}
use Rattle.term_pool.specs.declared.node.Two.TheVariants.{Binary}
use Rattle.term_pool.specs.declared.node.Node.{Node}
use Rattle.term_pool.specs.declared.node.Node.TheVariants.{Two as TwoNode}
use Rattle.tableau.specs.PoolBranches.{IsTermNumber}
use Rattle.row_reasoning.specs.Shapes.{term_at}
use Rattle.congruence_closure.specs.Known.{BranchClassesData}
use Rattle.row_reasoning.specs.Chosen.{IsNoSum}
use Rattle.row_reasoning.specs.Shallowest.{HasNumeral}
use Rattle.row_reasoning.specs.StandIns.{IsStandIn}
use Rattle.row_reasoning.specs.declared.differences.shape.Pair.{Pair}
use Rattle.row_reasoning.specs.declared.differences.shape.Shape.{Shape}
use Rattle.row_reasoning.specs.declared.differences.shape.Shape.TheVariants.{Unknown, Numeral, Sum}

-- ---- nodes of terms

abbrev pub pair_in : Node → Option Pair
pair_in (TwoNode h a b) = Some (record { head = h; first = a; second = b })
pair_in _ = None

-- the node with the number has this head and these parts
abbrev pub IsPair : List Node → ℕ → Pair → Type 0
IsPair ns n p = IsMade ns n (TwoNode p.head p.first p.second)

-- there is no such node, or it is not binary
pub data IsNoPair (ns : List Node) (n : ℕ) : Type 0 where
  Past : length ns ≤ n → IsNoPair ns n
  Other : (node : Node) → IsMade ns n node → pair_in node ≡ None → IsNoPair ns n

-- a sum or a difference of its parts, or a product of them of which one is a numeral
pub record IsSumOf (ns : List Node) (n : ℕ) (p : Pair) : Type 0 where
  pub made : IsPair ns n p
  pub sum : IsNoSum (term_at ns n) → ⊥

abbrev pub IsShape : List Node → ℕ → Shape → Type 0
IsShape ns n Unknown = IsNoSum (term_at ns n)
IsShape ns n Numeral = HasNumeral (term_at ns n)
IsShape ns n (Sum p) = IsSumOf ns n p

-- ---- with the chosen terms

-- the second number is that of the first number's term as a sum with the chosen term for each unknown
pub data IsChosenSum (ns : List Node) (c : BranchClassesData) (names : List ℕ) (find : ℕ → Option ℕ) : ℕ → ℕ → Type 0 where
  OfUnknown : (n m : ℕ) → IsStandIn ns c names find n m → IsChosenSum ns c names find n m
  OfNumeral : (n : ℕ) → IsTermNumber ns n → HasNumeral (term_at ns n) → IsChosenSum ns c names find n n
  OfParts : (n m : ℕ) (o : BinaryOperator) (a b x y : ℕ) → IsMade ns n (TwoNode (Binary o) a b) → (IsNoSum (term_at ns n) → ⊥) → IsMade ns m (TwoNode (Binary o) x y) → IsChosenSum ns c names find a x → IsChosenSum ns c names find b y → IsChosenSum ns c names find n m

-- each number is kept with the number of such a sum
pub record AreChosenSums (ns : List Node) (c : BranchClassesData) (names : List ℕ) (find : ℕ → Option ℕ) (kept : ℕ → Option ℕ) : Type 0 where
  pub each : (n m : ℕ) → kept n ≡ Some m → IsChosenSum ns c names find n m
