-- Matches of a trigger: a join over its terms, which are matched one after another with terms of the branch.
use Rattle.std.specs.Prelude.{◌≡◌, ◌⊎◌, ◌↔◌, ℕ, true, List, Some, Contains}
use Rattle.fol.specs.FormulaData.{TermData, terms_of}
use Rattle.substitution.specs.Free.{free_in_terms}
use Rattle.term_pool.specs.declared.node.Leaf.TheVariants.{Var}
use Rattle.term_pool.specs.Pools.{IsMade}
use Rattle.term_pool.specs.declared.node.Node.{Node}
use Rattle.term_pool.specs.declared.node.Node.TheVariants.{Leaf as LeafNode}
use Rattle.certificates.specs.BranchesBranch.{Branch, IsTerm}
use Rattle.certificates.specs.Match.{IsFilled, AreFilled}
use Rattle.tableau.specs.Logs.{value_in}
use Rattle.tableau.specs.PoolBranches.{IsTermNumber}
use Rattle.tableau.specs.declared.log.Change.{Change}
use Rattle.ematching.specs.Numbers.{IsAmong, AreAll, term_at}
use Rattle.ematching.specs.Fits.{Meets}
use Rattle.ematching.specs.declared.joins.Wanted.{Wanted}
use Rattle.ematching.specs.declared.joins.Candidate.{Candidate}

-- the variable is bound, and this is its number
pub record IsWanted (ns : List Node) (bound : List ℕ) (w : Wanted) : Type 0 where
  pub number : IsMade ns w.number (LeafNode (Var w.variable))
  pub is_bound : Contains bound w.variable

pub record IsKept (cs : List Change) (k : ℕ) : Type 0 where
  pub value : ℕ
  pub is : value_in cs k ≡ Some value

-- the value of the variable is recorded, or the variable is free in some pattern
abbrev pub IsReady : List Change → Wanted → List TermData → Type 0
IsReady cs w ts = IsKept cs w.number ⊎ (free_in_terms w.variable (terms_of ts) ≡ true)

-- some substitution that is consistent with the recorded matches gives the variable the term with this number, and
-- makes the patterns terms of the branch
pub record IsJoined (ns : List Node) (b : Branch) (bound : List ℕ) (x : ℕ) (cs : List Change) (ts : List TermData) (v : ℕ) : Type 0 where
  pub number : IsTermNumber ns v
  pub at : ℕ → TermData
  pub meets : Meets ns bound at cs
  pub for_variable : at x ≡ term_at ns v
  pub filled : List TermData
  pub are_filled : AreFilled bound at ts filled
  pub stand : AreAll (IsTerm b) filled

-- the numbers found before, and those of the joins
pub record AreJoined (ns : List Node) (b : Branch) (bound : List ℕ) (x : ℕ) (cs : List Change) (ts : List TermData) (found more : List ℕ) : Type 0 where
  pub each : (v : ℕ) → IsAmong v more ↔ (IsAmong v found ⊎ IsJoined ns b bound x cs ts v)

-- the number that is recorded for this key
pub record IsAdded (cs : List Change) (k : ℕ) (found more : List ℕ) : Type 0 where
  pub each : (w : ℕ) → value_in cs k ≡ Some w → (v : ℕ) → IsAmong v more ↔ (IsAmong v found ⊎ (v ≡ w))

-- ---- joins with a first pattern, by its target

pub record IsJoinedAt (ns : List Node) (b : Branch) (bound : List ℕ) (x : ℕ) (cs : List Change) (p c : ℕ) (ts : List TermData) (v : ℕ) : Type 0 where
  pub number : IsTermNumber ns v
  pub at : ℕ → TermData
  pub meets : Meets ns bound at cs
  pub for_variable : at x ≡ term_at ns v
  pub first : IsFilled bound at (term_at ns p) (term_at ns c)
  pub filled : List TermData
  pub are_filled : AreFilled bound at ts filled
  pub stand : AreAll (IsTerm b) filled

pub record AreJoinedAt (ns : List Node) (b : Branch) (bound : List ℕ) (x : ℕ) (cs : List Change) (c : Candidate) (ts : List TermData) (found more : List ℕ) : Type 0 where
  pub each : (v : ℕ) → IsAmong v more ↔ (IsAmong v found ⊎ IsJoinedAt ns b bound x cs c.pattern c.term ts v)
