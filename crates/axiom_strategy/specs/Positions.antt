-- Terms at whose classes memories and vectors are read, by groups.
use Rattle.std.specs.Prelude.{◌≡◌, ◌↔◌, ℕ, List, Contains, slice_index, Option, Some, None}
use Rattle.fol.specs.declared.operators.Binary.TheVariants.{Select, At}
use Rattle.term_pool.specs.Pools.{IsMade}
use Rattle.term_pool.specs.declared.node.Two.TheVariants.{Binary}
use Rattle.term_pool.specs.declared.node.Node.{Node}
use Rattle.term_pool.specs.declared.node.Node.TheVariants.{Two as TwoNode}
use Rattle.certificates.specs.BranchesBranch.{Branch}
use Rattle.congruence_closure.specs.Known.{BranchClassesData, class_of}
use Rattle.base.specs.Lists.{list_in}
use Rattle.tableau.specs.Terms.{IsBranchTerm}
use Rattle.axiom_strategy.specs.declared.decisions.positions.Position.{Position}

-- the memory or the vector that is read, and the index
abbrev pub read_of : Node → Option (ℕ × ℕ)
read_of (TwoNode (Binary Select) m k) = Some (m, k)
read_of (TwoNode (Binary At) v i) = Some (v, i)
read_of _ = None

-- the same for the node with this number
pub record IsReadAt (ns : List Node) (n : ℕ) (p : ℕ × ℕ) : Type 0 where
  pub node : Node
  pub made : IsMade ns n node
  pub is : read_of node ≡ Some p

-- something of the group is read at an index of the class
pub record IsReadIn (ns : List Node) (b : Branch) (c : BranchClassesData) (groups : List ℕ) (group class : ℕ) : Type 0 where
  pub number : ℕ
  pub term : IsBranchTerm ns b number
  pub parts : ℕ × ℕ
  pub read : IsReadAt ns number parts
  pub same_group : slice_index groups parts.0 ≡ group
  pub same_class : class_of c parts.1 ≡ class

-- the candidates by class
pub record AreByClass (c : BranchClassesData) (candidates : List ℕ) (lists : List (ℕ × List ℕ)) : Type 0 where
  pub each : (class t : ℕ) → Contains (list_in lists class) t ↔ (Contains candidates t × (class_of c t ≡ class))

abbrev pub at_group : ℕ → ℕ → Position
at_group group term = record { group = group; term = term }

-- a candidate at whose class something of the group is read
pub record IsPosition (ns : List Node) (b : Branch) (c : BranchClassesData) (groups candidates : List ℕ) (group t : ℕ) : Type 0 where
  pub candidate : Contains candidates t
  pub read : IsReadIn ns b c groups group (class_of c t)

-- all of them, and those of each group
pub record ArePositions (ns : List Node) (b : Branch) (c : BranchClassesData) (groups candidates : List ℕ) (all : List Position) (lists : List (ℕ × List ℕ)) : Type 0 where
  pub positions : (group t : ℕ) → Contains all (at_group group t) ↔ IsPosition ns b c groups candidates group t
  pub by_group : (group t : ℕ) → Contains (list_in lists group) t ↔ IsPosition ns b c groups candidates group t

-- the index terms at the classes seen in groups
pub record AreSpread (c : BranchClassesData) (candidates : List ℕ) (seen : List (ℕ × ℕ)) (all : List Position) (lists : List (ℕ × List ℕ)) : Type 0 where
  pub positions : (group t : ℕ) → Contains all (at_group group t) ↔ (Contains candidates t × Contains seen (group, class_of c t))
  pub by_group : (group t : ℕ) → Contains (list_in lists group) t ↔ (Contains candidates t × Contains seen (group, class_of c t))
