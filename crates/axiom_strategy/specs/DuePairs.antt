-- Where cuts are looked for, and pairs of terms on which a cut is due.
use Rattle.std.specs.Prelude.{ℕ, Bool, List}
use Rattle.term_pool.specs.declared.node.Node.{Node}
use Rattle.certificates.specs.BranchesBranch.{Branch}
use Rattle.certificates.specs.Due.{CutDue}
use Rattle.congruence_closure.specs.Known.{BranchClassesData}
use Rattle.tableau.specs.Terms.{term_at, IsBranchTerm, AreBranchTerms}
use Rattle.tableau.specs.Groups.{AreGroups}
use Rattle.axiom_strategy.specs.Positions.{ArePositions}
use Rattle.axiom_strategy.specs.Cuts.{AreCandidates}
use Rattle.axiom_strategy.specs.declared.decisions.positions.Position.{Position}

-- the index terms among the candidates of the branch's terms, by groups of aliasing memories and vectors
pub record AreCutPositions (ns : List Node) (b : Branch) (c : BranchClassesData) (marks : List Bool) (all : List Position) (lists : List (ℕ × List ℕ)) : Type 0 where
  pub groups : List ℕ
  pub near : AreGroups ns b groups
  pub terms : List ℕ
  pub are : AreBranchTerms ns b terms
  pub candidates : List ℕ
  pub chosen : AreCandidates ns c marks terms candidates
  pub positions : ArePositions ns b c groups candidates all lists

pub record IsDuePair (ns : List Node) (b : Branch) (pair : ℕ × ℕ) : Type 0 where
  pub left : IsBranchTerm ns b pair.0
  pub right : IsBranchTerm ns b pair.1
  pub due : CutDue b (term_at ns pair.0) (term_at ns pair.1)
