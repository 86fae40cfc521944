-- A pair of terms is open exactly if a cut on it is due.
use Rattle.std.proofs.Common.{ℕ, Bool, List, Option, Some, None, length}
use Rattle.std.specs.Prelude.{MatchOption}
use Rattle.term_pool.specs.Pools.{IsOneNumber}
use Rattle.term_pool.specs.declared.node.Node.{Node}
use Rattle.tableau.specs.PoolBranches.{BranchData, branch_in, IsOver}
use Rattle.congruence_closure.specs.Known.{BranchClassesData, AreExact}
use Rattle.tableau.specs.Terms.{AreClassesOf}
use Rattle.axiom_strategy.specs.Numbers.{AreNumberMarks}
use Rattle.axiom_strategy.specs.Denials.{AreDenied}
use Rattle.axiom_strategy.specs.Cuts.{NoCut, NoOpenPair, IsOpenPair, AreAllKnown}
use Rattle.axiom_strategy.specs.DuePairs.{AreCutPositions, IsDuePair}
use Rattle.axiom_strategy.specs.declared.decisions.positions.Position.{Position}
use Rattle.axiom_strategy.proofs.CutLemmas.{all_known, pair_due, none_due}

module _ (ns : List Node) (one : IsOneNumber ns) (d : BranchData) (over : IsOver ns d) (c : BranchClassesData) (classes : AreClassesOf ns d c) (exact : AreExact c) (marks : List Bool) (numbers : AreNumberMarks ns (branch_in ns d) marks) (denied : List (ℕ × ℕ)) (denials : AreDenied ns (branch_in ns d) c denied) (all : List Position) (lists : List (ℕ × List ℕ)) (h : AreCutPositions ns (branch_in ns d) c marks all lists) where
  pub known_positions : AreAllKnown c (length marks) all lists
  known_positions = all_known ns one d over c classes exact h.groups h.near h.terms h.are marks numbers denied denials h.candidates h.chosen all lists h.positions numbers.one_each

  pub pair_answer : (o : Option (ℕ × ℕ)) → MatchOption o (NoOpenPair c marks denied all lists) (IsOpenPair c marks denied all lists) → MatchOption o (NoCut (branch_in ns d)) (IsDuePair ns (branch_in ns d))
  pair_answer None m = none_due ns one d over c classes exact h.groups h.near h.terms h.are marks numbers denied denials h.candidates h.chosen all lists h.positions m
  pair_answer (Some p) m =
      let due = pair_due ns one d over c classes exact h.groups h.near h.terms h.are marks numbers denied denials h.candidates h.chosen all lists h.positions p m in
      record { left = due.0; right = due.1; due = due.2 }
