-- The type tables of the clauses of included schemas.
use Rattle.std.proofs.Common.{◌≡◌, ℕ, suc, ◌<◌, List, [], ◌∷◌, ◌++◌, length, take, Some, refl, ◌∙◌, ap, arith}
use Rattle.std.specs.Prelude.{Contains, slice_get}
use Rattle.std.specs.Global.{Vec}
use Rattle.std.specs.Map.{lookup}
use Rattle.std.proofs.lemmas.List.Elements.{Contains-append_right}
use Rattle.std.proofs.lemmas.Option.{slice_get_within}
use Rattle.base.specs.Pairs.{Paired}
use Rattle.program.specs.declared.declaration.Schema.{Schema}
use Rattle.program.specs.declared.program.Program.{Program}
use Rattle.program.specs.Same.{same_schema}
use Rattle.typing_rules.specs.Answers.{System}
use Rattle.typing_rules.specs.Clauses.{schema_names}
use Rattle.typing_rules.specs.Faults.{IsStated, OfSchema, Stated}
use Rattle.body_types.specs.SpecTyped.{SpecTypingSays}
use Rattle.type_check.specs.ClausesInstances.{Includes, Instance}
use Rattle.type_check.specs.Judged.{stated}
use Rattle.type_check.specs.declared.clauses.judged.JudgedClause.{JudgedClause}
use Rattle.type_check.proofs.Moved.{included_instance}
use Rattle.type_check.specs.SchemasInstances.{OwnerOf}
use Rattle.type_check.specs.Known.{listed}
use Rattle.type_check.specs.declared.schemas.broken.JudgedInstances.{JudgedInstances}
use Rattle.type_check.proofs.SchemasLists.{at_contained, some_at}
use Rattle.type_check.specs.Included.{AreIncluded}
use Rattle.type_check.specs.Answers.{IsDetermined}
use Rattle.type_check.specs.Clauses.{AreSettled, Tells}
use Rattle.type_check.specs.TypedProgramInstances.{AreInstanceTables, AreTablesOf}
use Rattle.type_check.specs.Tables.{IsSettled}
use Rattle.type_check.specs.declared.typed_program.TypeTable.{TypeTable}
use Rattle.type_check.proofs.TypedProgramLists.{get_front}
use Rattle.type_check.proofs.Owners.{owner_settled, owner_tabled}
use Rattle.type_check.proofs.Settled.{settled_clause}

-- the tables are those of clauses with these judgments
abbrev pub TellAll : Vec JudgedClause → List TypeTable → Type 0
TellAll judged tables = Paired Tells judged.items tables

-- the clauses of a schema that a clause of the program includes
included_settled : (program : Program) → IsDetermined program → (c : Stated) (i : Instance) (declared : Schema) → IsStated program c → Includes program c i → lookup (same_schema i.schema) program.schemas ≡ Some declared
    → AreSettled program (schema_names declared i.types) i.block i.types declared.clauses
included_settled program determined c i declared stands includes found lets k clause are at =
    let d = stated (schema_names declared i.types (take k lets)) i.block i.types clause c.span in
    settled_clause program determined d (OfSchema c d stands (included_instance program c d i includes (record {
      declared = declared;
      lookup_is = found;
      lets = lets;
      are_lets = are;
      number = k;
      one = at;
      names_are = refl;
      block_is = refl;
      types_are = refl;
      span_is = refl;
    })))

-- the judgment of a clause of an included instance, with others before and after it
pub instance_typed : (program : Program) → IsDetermined program → (instances : JudgedInstances) → AreIncluded program instances → (front : List (Vec JudgedClause)) (of : Vec JudgedClause) (back : List (Vec JudgedClause))
    → instances.judged.items ≡ front ++ of ∷ back → (one : JudgedClause) → Contains of.items one → (s : System) × IsSettled s × SpecTypingSays s one.pool one.typing
instance_typed program determined instances are front of back parts one there =
    let n = length front in
    let known = listed instances.known in
    let at : slice_get instances.judged.items n ≡ Some of = ap (λ (xs : List (Vec JudgedClause)). slice_get xs n) parts ∙ get_front front of back in
    let lt : n < length known = (let within = slice_get_within instances.judged.items n of at in let size = are.owners.size in omega (arith, within, size)) in
    let i = some_at known n lt in
    let w = are.only i.0 (at_contained known n i.0 i.1) in
    let declared = w.2.declared in
    let found = w.2.lookup_is in
    owner_settled program (schema_names declared i.0.types) i.0.block i.0.types declared.clauses of.items (are.owners.each n i.0 of lt i.1 at declared found)
    (included_settled program determined w.0 i.0 declared w.1 w.2 found) one there

-- the tables of each of these
tables_of : (program : Program) (known : List Instance) (judged : List (Vec JudgedClause)) (tables : List (List TypeTable)) → length judged ≡ length known
    → ((i : Instance) → Contains known i → (c : Stated) × IsStated program c × Includes program c i)
    → ((n : ℕ) (i : Instance) (of : Vec JudgedClause) → n < length known → slice_get known n ≡ Some i → slice_get judged n ≡ Some of → OwnerOf program i of.items)
    → Paired TellAll judged tables → Paired (AreTablesOf program) known tables
tables_of program [] [] [] size only each p = tt
tables_of program [] [] (x ∷ xs) size only each p = absurd p
tables_of program [] (j ∷ js) tables size only each p = absurd (omega (arith, size))
tables_of program (i ∷ is) [] tables size only each p = absurd (omega (arith, size))
tables_of program (i ∷ is) (j ∷ js) [] size only each p = absurd p
tables_of program (i ∷ is) (j ∷ js) (x ∷ xs) size only each p = (
  (let w = (only i (at_contained (i ∷ is) 0 i refl)).2 in
      record {
        declared = w.declared;
        lookup_is = w.lookup_is;
        typed = owner_tabled program (schema_names w.declared i.types) i.block i.types w.declared.clauses j.items (each 0 i j (omega arith) refl refl w.declared w.lookup_is) x p.0;
      }),
  tables_of program is js xs (omega (arith, size)) (λ k there. only k (behind i is k there)) (λ n k of lt at stands. each (suc n) k of (omega (arith, lt)) at stands) p.1,
)
  where
    behind : (i : Instance) (is : List Instance) (k : Instance) → Contains is k → Contains (i ∷ is) k
    behind i is k there = Contains-append_right (i ∷ []) is k there

pub instances_tabled : (program : Program) (instances : JudgedInstances) → AreIncluded program instances → (clauses : Vec (List TypeTable)) → Paired TellAll instances.judged.items clauses.items
    → AreInstanceTables program (record { known = instances.known; clauses = clauses })
instances_tabled program instances are clauses p = record {
  keyed = are.keyed;
  all = are.all;
  only = are.only;
  typed = tables_of program (listed instances.known) instances.judged.items clauses.items are.owners.size are.only are.owners.each p;
}
