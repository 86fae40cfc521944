-- Pairs of terms, by number: the classes at which something is read, by groups of aliasing memories and vectors, and
-- equations that entries negate.
use Rattle.std.specs.Prelude.{◌≡◌, ◌↔◌, ◌⊎◌, ℕ, List, Contains, slice_index}
use Rattle.term_pool.specs.declared.node.Node.{Node}
use Rattle.certificates.specs.BranchesBranch.{Branch}
use Rattle.congruence_closure.specs.Known.{BranchClassesData, class_of}
use Rattle.axiom_strategy.specs.Denials.{DeniesSides}
use Rattle.axiom_strategy.specs.Positions.{IsReadAt, IsReadIn}

-- the groups, each with the classes at which something of it is read
pub record AreReads (ns : List Node) (b : Branch) (c : BranchClassesData) (groups : List ℕ) (reads : List (ℕ × ℕ)) : Type 0 where
  pub each : (group class : ℕ) → Contains reads (group, class) ↔ IsReadIn ns b c groups group class

-- something of one group is read at the one class and at the other
pub record AreReadInOne (ns : List Node) (b : Branch) (c : BranchClassesData) (groups : List ℕ) (one other : ℕ) : Type 0 where
  pub group : ℕ
  pub one_read : IsReadIn ns b c groups group one
  pub other_read : IsReadIn ns b c groups group other

-- the term with this number reads, at the one class, something of a group of which something is read at the other class
pub record IsMeeting (ns : List Node) (c : BranchClassesData) (groups : List ℕ) (reads : List (ℕ × ℕ)) (one other number : ℕ) : Type 0 where
  pub parts : ℕ × ℕ
  pub read : IsReadAt ns number parts
  pub same_class : class_of c parts.1 ≡ one
  pub among : Contains reads (slice_index groups parts.0, other)

-- the entry states that terms of the two classes differ, in either order
pub record DeniesClasses (ns : List Node) (b : Branch) (c : BranchClassesData) (i one other : ℕ) : Type 0 where
  pub sides : ℕ × ℕ
  pub denies : DeniesSides ns b i sides
  pub are : ((class_of c sides.0 ≡ one) × (class_of c sides.1 ≡ other)) ⊎ ((class_of c sides.0 ≡ other) × (class_of c sides.1 ≡ one))
