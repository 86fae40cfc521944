-- The clauses of owners in a program, and their tables.
use Rattle.std.proofs.Common.{◌≡◌, ℕ, ◌<◌, List, length, map, take, Option, Some, refl, ◌∙◌, ap, arith}
use Rattle.std.specs.Prelude.{Contains, slice_get}
use Rattle.std.specs.Option.{option_map}
use Rattle.std.proofs.lemmas.Option.{slice_get-map, slice_get_within}
use Rattle.base.specs.Pairs.{Paired}
use Rattle.base.specs.TypeData.{TypeData, TypesData, NoTypes}
use Rattle.base.specs.declared.types.FunctionId.{FunctionId}
use Rattle.base.specs.declared.types.StructId.{StructId}
use Rattle.program.specs.declared.clause.Clause.{Clause}
use Rattle.program.specs.declared.clause.LoopClause.{LoopClause}
use Rattle.program.specs.declared.declaration.Function.{Function}
use Rattle.program.specs.declared.declaration.Module.{Module}
use Rattle.program.specs.declared.declaration.Struct.{Struct}
use Rattle.program.specs.declared.program.ModuleId.{ModuleId}
use Rattle.program.specs.declared.program.Program.{Program}
use Rattle.typing_rules.specs.Answers.{System}
use Rattle.typing_rules.specs.Clauses.{Block, FunctionBlock, LoopBlock, ModuleBlock, StructBlock, Names, LetType, clause_system, function_names, loop_names, module_names, struct_names}
use Rattle.typing_rules.specs.Faults.{IsOwned, IsStated, OfFunction, OfLoop, OfModule, OfStruct, Stated}
use Rattle.body_types.specs.SpecTyped.{SpecTypingSays}
use Rattle.type_check.specs.Judged.{OwnerSays, stated}
use Rattle.type_check.specs.declared.clauses.judged.JudgedClause.{JudgedClause}
use Rattle.type_check.proofs.SchemasLists.{at_contained, contained_at, some_at}
use Rattle.type_check.specs.Answers.{IsDetermined}
use Rattle.type_check.specs.Clauses.{AreClauseTables, AreLocals, AreSettled, Tells}
use Rattle.type_check.specs.Tables.{IsSettled}
use Rattle.type_check.specs.declared.typed_program.TypeTable.{TypeTable}
use Rattle.type_check.proofs.TypedProgramLists.{paired_at, paired_size}
use Rattle.type_check.proofs.Settled.{settled_clause}

-- ---- judgments of the clauses of an owner

module _ (program : Program) (names : List (Option LetType) → Names) (block : Block) (types : TypesData) (clauses : List Clause) (judged : List JudgedClause) (owner : OwnerSays program names block types clauses judged) where
  pub owner_settled : AreSettled program names block types clauses → (one : JudgedClause) → Contains judged one → (s : System) × IsSettled s × SpecTypingSays s one.pool one.typing
  owner_settled settled one there =
      let at = contained_at judged one there in
      let lt : at.0 < length clauses = (let within = slice_get_within judged at.0 one at.1 in let size = owner.same_length in omega (arith, within, size)) in
      let clause = some_at clauses at.0 lt in (
        clause_system program (names (take at.0 owner.lets)) block types clause.0,
        settled owner.lets at.0 clause.0 owner.are_lets clause.1,
        (owner.each at.0 clause.0 one clause.0.block clause.1 at.1).0.typing,
      )

  pub owner_tabled : (tables : List TypeTable) → Paired Tells judged tables → AreClauseTables program names block types clauses tables
  owner_tabled tables p =
      let size = paired_size Tells judged tables p in
      record {
        lets = owner.lets;
        are_lets = owner.are_lets;
        same_length = size ∙ owner.same_length;
        each = λ k clause table at there.
            let lt : k < length judged = (let within = slice_get_within tables k table there in omega (arith, within, size)) in
            let one = some_at judged k lt in
            paired_at Tells judged tables k one.0 table p one.1 there
            (clause_system program (names (take k owner.lets)) block types clause) (owner.each k clause one.0 clause.block at one.1).0.typing;
      }

-- ---- settings of clauses

module _ (program : Program) (determined : IsDetermined program) where
  owned_settled : (block : Block) (names : List (Option LetType) → Names) (clauses : List Clause) → ((c : Stated) → IsOwned program block names clauses c → IsStated program c)
      → AreSettled program names block NoTypes clauses
  owned_settled block names clauses stands lets k clause are at =
      let c = stated (names (take k lets)) block NoTypes clause clause.block in
      settled_clause program determined c (stands c (record {
        lets = lets;
        are_lets = are;
        number = k;
        one = at;
        names_are = refl;
        block_is = refl;
        types_are = refl;
        span_is = refl;
      }))

  pub function_settled : (id : FunctionId) (f : Function) → Contains program.functions (id, f) → AreSettled program (function_names f) FunctionBlock NoTypes f.clauses
  function_settled id f there = owned_settled FunctionBlock (function_names f) f.clauses (λ c own. OfFunction id f c there own)

  pub struct_settled : (id : StructId) (s : Struct) → Contains program.structs (id, s) → AreSettled program (struct_names s) StructBlock NoTypes s.clauses
  struct_settled id s there = owned_settled StructBlock (struct_names s) s.clauses (λ c own. OfStruct id s c there own)

  pub module_settled : (id : ModuleId) (m : Module) → Contains program.modules (id, m) → AreSettled program module_names ModuleBlock NoTypes m.clauses
  module_settled id m there = owned_settled ModuleBlock module_names m.clauses (λ c own. OfModule id m c there own)

  pub loop_settled : (id : FunctionId) (f : Function) (locals : List TypeData) (k : ℕ) (l : LoopClause) → Contains program.functions (id, f) → AreLocals program f locals → slice_get f.loop_clauses k ≡ Some l
      → IsSettled (clause_system program (loop_names f.result locals) LoopBlock NoTypes l.clause)
  loop_settled id f locals k l there are at =
      let c = stated (loop_names f.result locals) LoopBlock NoTypes l.clause l.clause.block in
      settled_clause program determined c (OfLoop id f c there (record {
        locals = locals;
        same_length = are.same_length;
        each = are.each;
        names_are = refl;
        block_is = refl;
        types_are = refl;
        one = at_contained (map (λ x. x.clause) f.loop_clauses) k l.clause (slice_get-map (λ (x : LoopClause). x.clause) f.loop_clauses k ∙ ap (option_map (λ (x : LoopClause). x.clause)) at);
        span_is = refl;
      }))
