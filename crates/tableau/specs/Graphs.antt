-- Graphs over the numbers of a pool whose edges join aliasing memories and vectors.
use Rattle.std.specs.Prelude.{◌≡◌, ◌⊎◌, ℕ, List, length, Contains, Option, Some, None, cond, nat_eq}
use Rattle.term_pool.specs.Pools.{IsMade}
use Rattle.term_pool.specs.declared.node.Node.{Node}
use Rattle.base.specs.GraphReachability.{IsEdge, Reaches}
use Rattle.certificates.specs.BranchesBranch.{Branch}
use Rattle.congruence_closure.specs.Known.{BranchClassesData, class_of}
use Rattle.tableau.specs.Terms.{IsBranchTerm}
use Rattle.tableau.specs.Groups.{changed}

-- ---- edges that were added

-- edges both ways between two numbers
pub record IsJoined (old new : List (List ℕ)) (i j : ℕ) : Type 0 where
  pub same : length new ≡ length old
  pub kept : (k m : ℕ) → IsEdge old k m → IsEdge new k m
  pub there : IsEdge new i j
  pub back : IsEdge new j i
  pub only : (k m : ℕ) → IsEdge new k m → IsEdge old k m ⊎ (((k ≡ i) × (m ≡ j)) ⊎ ((k ≡ j) × (m ≡ i)))

-- the second number is that of the memory or vector that the first one's term updates
pub record IsChangeOf (ns : List Node) (i j : ℕ) : Type 0 where
  pub node : Node
  pub made : IsMade ns i node
  pub is : changed node ≡ Some j

-- edges between a number and that of the memory or vector that its term updates
pub data IsChangeJoined (ns : List Node) (n : ℕ) (old new : List (List ℕ)) : Type 0 where
  NoChange : new ≡ old → ((m : ℕ) → IsChangeOf ns n m → ⊥) → IsChangeJoined ns n old new
  OneChange : (m : ℕ) → IsChangeOf ns n m → IsJoined old new n m → IsChangeJoined ns n old new

-- edges between a number and the first one of its class, if there is one; else it becomes the first
pub data IsClassJoined (class n : ℕ) (old new : List (List ℕ)) (before after : ℕ → Option ℕ) : Type 0 where
  ToFirst : (first : ℕ) → before class ≡ Some first → after ≡ before → IsJoined old new n first → IsClassJoined class n old new before after
  AsFirst : before class ≡ None → new ≡ old → ((k : ℕ) → after k ≡ cond (nat_eq class k) (Some n) (before k)) → IsClassJoined class n old new before after

-- ---- the graph

-- two terms of the branch alias directly: they are of one class, or one is an update of the other
pub data IsLink (ns : List Node) (c : BranchClassesData) (i j : ℕ) : Type 0 where
  OneClass : class_of c i ≡ class_of c j → IsLink ns c i j
  Change : IsChangeOf ns i j → IsLink ns c i j
  Changed : IsChangeOf ns j i → IsLink ns c i j

pub record AreLinked (ns : List Node) (b : Branch) (c : BranchClassesData) (i j : ℕ) : Type 0 where
  pub one : IsBranchTerm ns b i
  pub other : IsBranchTerm ns b j
  pub link : IsLink ns c i j

-- the number is that of a term of this class
pub record IsFirst (ns : List Node) (b : Branch) (c : BranchClassesData) (class first : ℕ) : Type 0 where
  pub term : IsBranchTerm ns b first
  pub is : class_of c first ≡ class

-- the graph connects the number to the first one of its class
pub record IsClassed (c : BranchClassesData) (graph : List (List ℕ)) (firsts : ℕ → Option ℕ) (n : ℕ) : Type 0 where
  pub first : ℕ
  pub found : firsts (class_of c n) ≡ Some first
  pub reached : Reaches graph n first

-- each edge joins terms that alias, and these terms are joined with the first ones of their classes and with those
-- that they update
pub record IsLinking (ns : List Node) (b : Branch) (c : BranchClassesData) (done : List ℕ) (graph : List (List ℕ)) (firsts : ℕ → Option ℕ) : Type 0 where
  pub one_each : length graph ≡ length ns
  pub turned : (i j : ℕ) → IsEdge graph i j → IsEdge graph j i
  pub sound : (i j : ℕ) → IsEdge graph i j → AreLinked ns b c i j
  pub firsts_are : (class first : ℕ) → firsts class ≡ Some first → IsFirst ns b c class first
  pub classed : (n : ℕ) → Contains done n → IsClassed c graph firsts n
  pub changes : (n m : ℕ) → Contains done n → IsChangeOf ns n m → IsEdge graph n m
