-- The judgments of the clauses of an included schema determine the judgment of the instance.
use Rattle.std.proofs.Common.{◌≡◌, ◌<◌, List, [], length, take, Option, Some, None, refl, sym, ◌∙◌, ap, subst, arith}
use Rattle.std.specs.Prelude.{◌↔◌, IsTrue, Contains, slice_get}
use Rattle.std.specs.Map.{lookup}
use Rattle.std.proofs.lemmas.Option.{slice_get_within}
use Rattle.base.specs.TypeData.{TypesData}
use Rattle.base.specs.declared.span.Span.{Span}
use Rattle.program.specs.declared.declaration.Schema.{Schema}
use Rattle.program.specs.declared.program.Program.{Program}
use Rattle.program.specs.Same.{same_schema}
use Rattle.typing_rules.specs.Clauses as C
use Rattle.typing_rules.specs.Faults.{Stated}
use Rattle.type_check.specs.ClausesInstances.{Instance, Includes, IsOfInstance}
use Rattle.type_check.specs.Judged.{ClauseBreaks, ClauseSays, IncludedSays, OwnerSays, instance_of, stated}
use Rattle.type_check.specs.declared.clauses.instance.Instance.{Instance as IncludedInstance}
use Rattle.type_check.specs.declared.clauses.judged.JudgedClause.{JudgedClause}
use Rattle.type_check.proofs.Unique.{one_instance, one_lets}
use Rattle.type_check.specs.declared.clauses.judged.ClauseRule.{ClauseRule}
use Rattle.type_check.specs.declared.clauses.judged.ClauseRule.TheVariants.{Typing, Settling}
use Rattle.type_check.specs.Closed.{InstanceSays, IsAny}
use Rattle.type_check.specs.Including.{InstanceBreaks, Leads}
use Rattle.type_check.proofs.SchemasLists.{at_contained, contained_at, some_at, some_inside}

-- clauses with equal components are equal
same_stated : (c : Stated) (names : C.Names) (block : C.Block) (types : TypesData) → c.names ≡ names → c.block ≡ block → c.types ≡ types → c ≡ stated names block types c.clause c.span
same_stated c names block types e f g = λ i. record { names = e i; block = f i; types = g i; clause = c.clause; span = c.span }

module _ (program : Program) (i : Instance) (judged : List JudgedClause) where
  -- a clause of the instance, with its judgment
  record KnownTypes : Type 0 where
    each : (span : Span) (c : Stated) → IsOfInstance program i span c → (one : JudgedClause) × (Contains judged one × ClauseSays program c one)
    back : (one : JudgedClause) → Contains judged one → (span : Span) × ((c : Stated) × (IsOfInstance program i span c × ClauseSays program c one))

  breaks_if : (rule : ClauseRule) (IsSo : JudgedClause → Type 0) → KnownTypes → ((c : Stated) (one : JudgedClause) → ClauseSays program c one → IsSo one ↔ ClauseBreaks program rule c)
      → IsAny IsSo judged ↔ InstanceBreaks program rule i
  breaks_if rule IsSo known same = (
    (λ w. let b = known.back w.0 w.1 in record { span = b.0; clause = b.1.0; is_of = b.1.1.0; breaks = (same b.1.0 w.0 b.1.1.1).0 w.2 }),
    (λ b. let w = known.each b.span b.clause b.is_of in (w.0, w.1.0, (same b.clause w.0 w.1.1).1 b.breaks)),
  )

  included_is : (c : Stated) (j : Instance) (one : Option IncludedInstance) → IncludedSays program c one → Includes program c j
      → (k : IncludedInstance) × ((one ≡ Some k) × (instance_of k ≡ j))
  included_is c j None says h = absurd (says j h)
  included_is c j (Some k) says h = (k, (refl, one_instance program c (instance_of k) j says h))

  leads_if : KnownTypes → (j : Instance) → IsAny (λ one. (k : IncludedInstance) × (one.included ≡ Some k) × (instance_of k ≡ j)) judged ↔ Leads program i j
  leads_if known j = (
    (λ w.
        let b = known.back w.0 w.1 in
        let says : IncludedSays program b.1.0 (Some w.2.0) = subst (λ (o : Option IncludedInstance). IncludedSays program b.1.0 o) w.2.1 b.1.1.1.included in
        record { span = b.0; clause = b.1.0; is_of = b.1.1.0; includes = subst (λ (k : Instance). Includes program b.1.0 k) w.2.2 says }),
    (λ l.
        let w = known.each l.span l.clause l.is_of in
        let k = included_is l.clause j w.0.included w.1.1.included l.includes in
        (w.0, w.1.0, (k.0, k.1.0, k.1.1))),
  )

  says : KnownTypes → InstanceSays program i judged
  says known = record {
    untyped = breaks_if Typing (λ one. IsTrue one.is_untyped) known (λ c one s. s.untyped);
    unsettled = breaks_if Settling (λ one. IsTrue one.is_unsettled) known (λ c one s. s.unsettled);
    leads = leads_if known;
  }

  known_of : (declared : Schema) → lookup (same_schema i.schema) program.schemas ≡ Some declared → OwnerSays program (C.schema_names declared i.types) i.block i.types declared.clauses judged → KnownTypes
  known_of declared found owner = record {
    each = λ span c of.
        let same : of.declared ≡ declared = some_inside of.declared declared (sym of.lookup_is ∙ found) in
        let at : slice_get declared.clauses of.number ≡ Some c.clause = subst (λ (d : Schema). slice_get d.clauses of.number ≡ Some c.clause) same of.one in
        let lets : of.lets ≡ owner.lets = one_lets (λ before. C.clause_system program (C.schema_names declared i.types before) i.block i.types) declared.clauses of.lets owner.lets
        (subst (λ (d : Schema). C.AreLets (λ before. C.clause_system program (C.schema_names d i.types before) i.block i.types) d.clauses of.lets) same of.are_lets) owner.are_lets in
        let lt : of.number < length judged = (let within = slice_get_within declared.clauses of.number c.clause at in let size = owner.same_length in omega (arith, within, size)) in
        let one = some_at judged of.number lt in
        let names : c.names ≡ C.schema_names declared i.types (take of.number owner.lets) =
        of.names_are ∙ ap (λ (d : Schema). C.schema_names d i.types (take of.number of.lets)) same ∙ ap (λ (ls : List (Option C.LetType)). C.schema_names declared i.types (take of.number ls)) lets in (
          one.0,
          (
            at_contained judged of.number one.0 one.1,
            subst (λ (d : Stated). ClauseSays program d one.0) (sym (same_stated c _ i.block i.types names of.block_is of.types_are))
                (owner.each of.number c.clause one.0 c.span at one.1).0,
          ),
        );
    back = λ one contained.
        let at = contained_at judged one contained in
        let lt : at.0 < length declared.clauses = (let within = slice_get_within judged at.0 one at.1 in let size = owner.same_length in omega (arith, within, size)) in
        let clause = some_at declared.clauses at.0 lt in
        let span : Span = clause.0.block in (
          span,
          (
            stated (C.schema_names declared i.types (take at.0 owner.lets)) i.block i.types clause.0 span,
            (
              record {
                declared = declared;
                lookup_is = found;
                lets = owner.lets;
                are_lets = owner.are_lets;
                number = at.0;
                one = clause.1;
                names_are = refl;
                block_is = refl;
                types_are = refl;
                span_is = refl;
              },
              (owner.each at.0 clause.0 one span clause.1 at.1).0,
            ),
          ),
        );
  }

  pub instance_says : (declared : Schema) → lookup (same_schema i.schema) program.schemas ≡ Some declared
      → OwnerSays program (C.schema_names declared i.types) i.block i.types declared.clauses judged → InstanceSays program i judged
  instance_says declared found owner = says (known_of declared found owner)

pub none_says : (program : Program) (i : Instance) → lookup (same_schema i.schema) program.schemas ≡ None → InstanceSays program i []
none_says program i none = says program i [] (record {
  each = λ span c of. absurd (let e : None ≡ Some of.declared = sym none ∙ of.lookup_is in cc);
  back = λ one contained. absurd (let b = contained.1 in omega (arith, b));
})
