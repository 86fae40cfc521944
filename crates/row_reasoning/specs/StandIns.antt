-- Terms chosen for their classes, which replace the other terms of the class.
use Rattle.std.specs.Prelude.{◌≡◌, ℕ, ◌<◌, ◌≤◌, List, length, slice_index, Option, Some}
use Rattle.fol.specs.FormulaData.{TermData}
use Rattle.term_pool.specs.declared.node.Node.{Node}
use Rattle.congruence_closure.specs.Links.{Linked}
use Rattle.tableau.specs.Marks.{IsUnder}
use Rattle.tableau.specs.PoolBranches.{IsTermNumber}
use Rattle.row_reasoning.specs.Shapes.{term_at}
use Rattle.congruence_closure.specs.Known.{BranchClassesData, node_in}
use Rattle.row_reasoning.specs.Chosen.{IsNoSum}
use Rattle.row_reasoning.specs.Shallowest.{depth_at}

pub record HasChosen (find : ℕ → Option ℕ) (class : ℕ) : Type 0 where
  pub term : ℕ
  pub found : find class ≡ Some term

-- the first number is that of a term that is no sum, and the second that of the term chosen for its class: edges of the
-- proof forest connect the two, and the chosen term is no deeper
pub record IsStandIn (ns : List Node) (c : BranchClassesData) (names : List ℕ) (find : ℕ → Option ℕ) (n m : ℕ) : Type 0 where
  pub term : IsTermNumber ns n
  pub other : IsTermNumber ns m
  pub no_sum : IsNoSum (term_at ns n)
  pub chosen : find (slice_index names n) ≡ Some m
  pub node : ℕ
  pub other_node : ℕ
  pub found : node_in c n ≡ Some node
  pub other_found : node_in c m ≡ Some other_node
  pub linked : Linked c.classes.links node other_node
  pub no_deeper : depth_at ns m ≤ depth_at ns n

-- some chosen term replaces it
pub record HasStandIn (ns : List Node) (c : BranchClassesData) (names : List ℕ) (find : ℕ → Option ℕ) (n : ℕ) : Type 0 where
  pub named : n < length names
  pub chosen : ℕ
  pub is : IsStandIn ns c names find n chosen

-- the same for each term in this item, outside quantifiers, that is no sum
pub record HaveStandIns (ns : List Node) (c : BranchClassesData) (names : List ℕ) (find : ℕ → Option ℕ) (top : ℕ) : Type 0 where
  pub each : (n : ℕ) → IsUnder ns top n → IsTermNumber ns n → IsNoSum (term_at ns n) → HasStandIn ns c names find n

-- over classes each of them is the unknown for which the chosen term was chosen
pub record AreOverClasses (ns : List Node) (c : BranchClassesData) (names : List ℕ) (find : ℕ → Option ℕ) (top : ℕ) (class : TermData → ℕ) (chosen : ℕ → TermData) : Type 0 where
  pub each : (n m : ℕ) → IsUnder ns top n → IsStandIn ns c names find n m → chosen (class (term_at ns n)) ≡ term_at ns m
