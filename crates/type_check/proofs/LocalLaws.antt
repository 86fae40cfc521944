-- The types of the locals of a function, by its table.
use Rattle.std.proofs.Common.{◌≡◌, ℕ, zero, suc, ◌+◌, ◌<◌, List, [], ◌∷◌, ◌++◌, length, map, Some, refl, sym, ◌∙◌, ap, subst, arith}
use Rattle.std.specs.Prelude.{slice_get, sum_by}
use Rattle.std.specs.Option.{option_map}
use Rattle.std.proofs.lemmas.List.{length-map}
use Rattle.std.proofs.lemmas.List.Elements.{All-contains}
use Rattle.std.proofs.lemmas.Option.{get_or_from_slice_get, slice_get-map, slice_get_within}
use Rattle.base.specs.Pairs.{Paired}
use Rattle.base.specs.TypeData.{TypeData, NoTypes}
use Rattle.program.specs.declared.clause.LoopClause.{LoopClause}
use Rattle.program.specs.declared.declaration.Function.{Function}
use Rattle.program.specs.declared.program.Program.{Program}
use Rattle.typing_rules.specs.Pools.{type_at, types}
use Rattle.typing_rules.specs.Clauses.{LoopBlock, clause_system, loop_names}
use Rattle.typing_rules.specs.Settings.{node_arity, unit_type}
use Rattle.typing_rules.specs.Answers.{System, HasType}
use Rattle.typing_rules.specs.CodeSystems.{function_system}
use Rattle.type_check.proofs.SchemasLists.{at_contained, some_at}
use Rattle.type_check.proofs.Placing.{TypesTo, more_types, no_types}
use Rattle.type_check.specs.Clauses.{AreLocals, AreLoopTables, AreLoopTablesWith}
use Rattle.type_check.specs.Tables.{IsTable}
use Rattle.type_check.specs.declared.typed_program.TypeTable.{TypeTable}

-- ---- the type of a type variable in a table

module _ (s : System) (table : TypeTable) (is : IsTable s table) where
  pub variable_within : (p : ℕ) → p < s.variables → p < length table.types
  variable_within p lt = (let size = is.0.same_length in let mapped = length-map table.types (type_at (types table.pool)) in omega (arith, lt, size, mapped))

  pub number_within : (p n : ℕ) → slice_get table.types p ≡ Some n → n < length table.pool
  number_within p n at = All-contains (λ (m : ℕ). m < length table.pool) table.types n is.1 (at_contained table.types p n at)

  pub variable_type : (p n : ℕ) → slice_get table.types p ≡ Some n → HasType s p (type_at (types table.pool) n)
  variable_type p n at =
      let within = slice_get_within table.types p n at in
      let size = is.0.same_length in
      let mapped = length-map table.types (type_at (types table.pool)) in
      let there : slice_get (map (type_at (types table.pool)) table.types) p ≡ Some (type_at (types table.pool) n) =
      slice_get-map (type_at (types table.pool)) table.types p ∙ ap (option_map (type_at (types table.pool))) at in
      subst (λ (t : TypeData). HasType s p t) (get_or_from_slice_get (map (type_at (types table.pool)) table.types) p (type_at (types table.pool) n) unit_type there)
      (is.0.each p (omega (arith, within, size, mapped)))

-- ---- locals

-- a local has a type variable
pub local_within : (program : Program) (f : Function) (l : ℕ) → l < length f.locals → length f.body.nodes + l < (function_system program f).variables
local_within program f l lt =
    let variables : (function_system program f).variables ≡ (length f.body.nodes + length f.locals) + sum_by (node_arity program) f.body.nodes = refl in
    omega (arith, lt, variables)

pub are_locals : (program : Program) (f : Function) (count : ℕ) (locals : List TypeData) → count ≡ length f.locals
    → TypesTo (function_system program f) (length f.body.nodes) (length f.body.nodes + count) locals → AreLocals program f locals
are_locals program f count locals same to = record {
  same_length = (let size = to.size in omega (arith, size, same));
  each = to.each;
}

-- the types of the table are those of the locals
module _ (program : Program) (f : Function) (table : TypeTable) (is : IsTable (function_system program f) table) where
  abbrev first : ℕ
  first = length f.body.nodes

  locals_to : (count : ℕ) → count < suc (length f.locals) → (locals : List TypeData) × TypesTo (function_system program f) first (first + count) locals
  locals_to zero lt = ([], subst (λ (p : ℕ). TypesTo (function_system program f) first p []) (omega arith) (no_types (function_system program f) first [] refl))
  locals_to (suc count) lt =
      let before = locals_to count (omega (arith, lt)) in
      let span = first + count in
      let number = some_at table.types span (variable_within (function_system program f) table is span (local_within program f count (omega (arith, lt)))) in
      let of = type_at (types table.pool) number.0 in (
        before.0 ++ of ∷ [],
        subst (λ (p : ℕ). TypesTo (function_system program f) first p (before.0 ++ of ∷ [])) (omega arith)
            (more_types (function_system program f) first span before.0 (before.0 ++ of ∷ []) of refl (variable_type (function_system program f) table is span number.0 number.1) before.1),
      )

  pub no_loops : (tables : List TypeTable) → f.loop_clauses ≡ [] → tables ≡ [] → AreLoopTables program f tables
  no_loops tables none empty =
      let l = locals_to (length f.locals) (omega arith) in
      record {
        locals = l.0;
        are_locals = are_locals program f (length f.locals) l.0 refl l.1;
        typed = subst (λ (ts : List TypeTable). AreLoopTablesWith program f l.0 ts) (sym empty)
            (subst (λ (ls : List LoopClause). Paired (λ clause t. IsTable (clause_system program (loop_names f.result l.0) LoopBlock NoTypes clause) t) (map (λ x. x.clause) ls) []) (sym none) tt);
      }
