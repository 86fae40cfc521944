-- The clauses of loops, block by block.
use Rattle.std.specs.Prelude.{◌≡◌, ℕ, List, ◌++◌, map}
use Rattle.std.specs.List.{flat_map}
use Rattle.base.specs.Pairs.{Paired}
use Rattle.syntax_tree.specs.declared.member.Function.{Function as FunctionTree}
use Rattle.syntax_tree.specs.declared.clause.Spec.{Spec as SpecTree}
use Rattle.program.specs.declared.clause.LoopClause.{LoopClause}
use Rattle.body_names.specs.declared.spec.outer.OuterName.{OuterName}
use Rattle.resolution.specs.Clauses.{PlacedClause}
use Rattle.resolution.specs.Setting.{ClauseScope}
use Rattle.body_names.specs.declared.code.loops.LoopScope.{LoopScope}
use Rattle.resolution.specs.Items.{AreKnown, Here, HasUnknownInOne, LoopItem}
use Rattle.resolution.specs.Programs.{IsClauseAt, IsLoopClauseOf, sources_of_loop}

-- the clauses of these sources are appended to others, each with this index of a loop's node
pub record AddedOne (scope : ClauseScope) (outer : List OuterName) (at : ℕ) (sources : List PlacedClause) (old new : List LoopClause) : Type 0 where
  pub more : List LoopClause
  pub are : Paired (IsClauseAt scope outer at) sources more
  pub all : new ≡ old ++ more
  pub known : HasUnknownInOne scope outer sources → ⊥

-- the clauses of these loops of a function are appended to others
pub record AddedLoops (w : Here) (f : FunctionTree) (loops : List (LoopScope × SpecTree)) (old new : List LoopClause) : Type 0 where
  pub more : List LoopClause
  pub are : Paired (IsLoopClauseOf w f) (flat_map sources_of_loop loops) more
  pub all : new ≡ old ++ more
  pub known : AreKnown (map (LoopItem w f) loops)
