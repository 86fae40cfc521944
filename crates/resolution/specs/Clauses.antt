-- The clauses of one target, in source order across all its spec blocks. Source: the Move Specification Language
-- reference, "Spec Blocks and Conditions" and "Let Bindings": a `let` is in scope in the clauses after it, and not in
-- its own value.
use Rattle.std.specs.Prelude.{◌≡◌, ◌⊎◌, ℕ, ◌+◌, List, [], ◌∷◌, ◌++◌, length, if◌then◌else◌}
use Rattle.std.specs.List.{flat_map}
use Rattle.base.specs.declared.span.Span.{Span}
use Rattle.syntax_tree.specs.declared.clause.Clause.{Clause as ClauseTree}
use Rattle.syntax_tree.specs.declared.clause.Clause.TheVariants.{Pragma as pragma_clause, Requires as requires_clause, Ensures as ensures_clause, AbortsIf as aborts_if_clause, Modifies as modifies_clause, Invariant as invariant_clause, Let as let_clause, Include as include_clause, Variable as variable_clause}
use Rattle.program.specs.declared.clause.Clause.{Clause}
use Rattle.program.specs.declared.spec.SpecName.TheVariants.{Let as let_name}
use Rattle.body_names.specs.declared.spec.outer.OuterName.{OuterName}
use Rattle.resolution.specs.declared.clauses.Target.{Target}
use Rattle.resolution.specs.Setting.{ClauseScope}
use Rattle.resolution.specs.ClauseForms.{HasUnknown, IsClauseOf, is_clause}

-- a clause, with the span of the first token of its spec block
pub record PlacedClause : Type 0 where
  pub block : Span
  pub tree : ClauseTree

-- the clauses of a program in a spec block
abbrev pub placed_one : Span → ClauseTree → List PlacedClause
placed_one block one = if is_clause one then record { block = block; tree = one } ∷ [] else []

abbrev pub placed : Span → List ClauseTree → List PlacedClause
placed block trees = flat_map (placed_one block) trees

-- the name that a clause brings into scope after it, if it has index n among the clauses of its target
abbrev pub entered : ℕ → ClauseTree → List OuterName
entered n (pragma_clause span pragmas) = []
entered n (requires_clause span e) = []
entered n (ensures_clause span e) = []
entered n (aborts_if_clause span e code) = []
entered n (modifies_clause span targets) = []
entered n (invariant_clause span is_update e) = []
entered n (let_clause span is_post name e) = record { name = name.text; meaning = let_name n } ∷ []
entered n (include_clause i) = []
entered n (variable_clause name) = []

-- the names that clauses bring into scope, the first of which has index n
abbrev pub lets_from : ℕ → List PlacedClause → List OuterName
lets_from n [] = []
lets_from n (one ∷ more) = entered n one.tree ++ lets_from (1 + n) more

-- the clauses of these sources, the first of which has index n; these names and the `let`s before it are in scope in
-- each
abbrev pub AreClausesOf : ClauseScope → List OuterName → ℕ → List PlacedClause → List Clause → Type 0
AreClausesOf w outer n [] [] = Unit {0}
AreClausesOf w outer n [] (clause ∷ clauses) = ⊥
AreClausesOf w outer n (one ∷ more) [] = ⊥
AreClausesOf w outer n (one ∷ more) (clause ∷ clauses) =
    IsClauseOf w outer one.block one.tree clause × AreClausesOf w (outer ++ entered n one.tree) (1 + n) more clauses

-- some use in one of them has no meaning
abbrev pub HasUnknownAmong : ClauseScope → List OuterName → ℕ → List PlacedClause → Type 0
HasUnknownAmong w outer n [] = ⊥
HasUnknownAmong w outer n (one ∷ more) =
    HasUnknown w outer one.tree ⊎ HasUnknownAmong w (outer ++ entered n one.tree) (1 + n) more

-- the clauses of these sources are appended to those of a target, and the names that they bring into scope to its names
pub record AddedClauses (w : ClauseScope) (sources : List PlacedClause) (old new : Target) : Type 0 where
  pub more : List Clause
  pub are : AreClausesOf w old.outer (length old.clauses) sources more
  pub clauses : new.clauses ≡ old.clauses ++ more
  pub outer : new.outer ≡ old.outer ++ lets_from (length old.clauses) sources

-- some use in a source after a target's clauses has no meaning
abbrev pub HasUnknownBehind : ClauseScope → List PlacedClause → Target → Type 0
HasUnknownBehind w sources old = HasUnknownAmong w old.outer (length old.clauses) sources
