-- Tables of clauses by the names of functions.
use Rattle.std.specs.Prelude.{ℕ, List, [], map, Option}
use Rattle.std.specs.Option.{unwrap_or}
use Rattle.std.specs.BTreeMap.{BTreeMap}
use Rattle.std.specs.BTreeMap as tree
use Rattle.std.specs.Ordering.{nat_cmp}
use Rattle.std.specs.Cmp.Lexicographic.{slice_cmp}
use Rattle.sum_tree.specs.declared.clause.SumClause.{SumClause}
use Rattle.sum_tree.specs.SumFunctionData.{SumFunctionData}
use Rattle.sum_tree.specs.SpecifiedData.{SpecifiedFunctionData}

abbrev pub entry_at : BTreeMap (List ℕ) (List SumClause) → List ℕ → Option (List SumClause)
entry_at table name = tree.get (slice_cmp nat_cmp) table name

-- the clauses of a name; none if it is not in the table
abbrev pub clauses_at : BTreeMap (List ℕ) (List SumClause) → List ℕ → List SumClause
clauses_at table name = unwrap_or (entry_at table name) []

abbrev pub with_clauses : BTreeMap (List ℕ) (List SumClause) → SumFunctionData → SpecifiedFunctionData
with_clauses table f = record { function = f; clauses = clauses_at table f.name }

abbrev pub names_among : List SumFunctionData → List (List ℕ)
names_among functions = map (λ f. f.name) functions
