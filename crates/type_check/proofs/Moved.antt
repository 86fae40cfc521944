-- The system of a clause does not depend on its span; and an included clause is one of a schema at types.
use Rattle.std.proofs.Common.{◌≡◌, ℕ, ◌+◌, length, take, Some, refl, sym, ◌∙◌, ap, subst}
use Rattle.std.specs.Prelude.{slice_get}
use Rattle.base.specs.TypeData.{TypeData, TypesData, list_of_types}
use Rattle.base.specs.declared.span.Span.{Span}
use Rattle.program.specs.declared.declaration.Schema.{Schema}
use Rattle.program.specs.declared.program.Program.{Program}
use Rattle.typing_rules.specs.Answers.{HasType}
use Rattle.typing_rules.specs.SpecConstraints.{spec_variable_count}
use Rattle.typing_rules.specs.Clauses as C
use Rattle.typing_rules.specs.Faults.{Stated, IsStated, IsIncluded, stated_system}
use Rattle.typing_rules.specs.Faults as F
use Rattle.type_check.specs.ClausesInstances.{Instance, Includes, IsOfInstance}
use Rattle.type_check.specs.Judged.{ClauseBreaks, stated}
use Rattle.type_check.specs.Reached.{IsRoot, IsReached}
use Rattle.type_check.specs.Reached as R
use Rattle.type_check.specs.declared.clauses.judged.ClauseRule.{ClauseRule}
use Rattle.type_check.specs.declared.clauses.judged.ClauseRule.TheVariants.{Typing, Settling}

-- the same clause with this span of its block
abbrev pub moved : Stated → Span → Stated
moved c span = stated c.names c.block c.types c.clause span

pub moved_of : (program : Program) (i : Instance) (p q : Span) (c : Stated) → IsOfInstance program i p c → IsOfInstance program i q (moved c q)
moved_of program i p q c of = record {
  declared = of.declared;
  lookup_is = of.lookup_is;
  lets = of.lets;
  are_lets = of.are_lets;
  number = of.number;
  one = of.one;
  names_are = of.names_are;
  block_is = of.block_is;
  types_are = of.types_are;
  span_is = refl;
}

pub moved_includes : (program : Program) (i : Instance) (q : Span) (c : Stated) → Includes program c i → Includes program (moved c q) i
moved_includes program i q c h = record {
  types = h.types;
  given = h.given;
  form_is = h.form_is;
  declared = h.declared;
  lookup_is = h.lookup_is;
  same_length = h.same_length;
  arguments = h.arguments;
  block_is = h.block_is;
}

pub moved_breaks : (program : Program) (rule : ClauseRule) (q : Span) (c : Stated) → ClauseBreaks program rule c → ClauseBreaks program rule (moved c q)
moved_breaks program Typing q c h = h
moved_breaks program Settling q c h = h

-- ---- included schemas, at their types

pub instance_included : (program : Program) (from c : Stated) → IsIncluded program from c → (i : Instance) × (Includes program from i × IsOfInstance program i from.span c)
instance_included program from c h = (
  record { schema = h.schema; types = c.types; block = from.block },
  (
    record {
      types = h.types;
      given = h.given;
      form_is = h.form_is;
      declared = h.declared;
      lookup_is = h.lookup_is;
      same_length = h.same_length;
      arguments = h.arguments;
      block_is = refl;
    },
    record {
      declared = h.declared;
      lookup_is = h.lookup_is;
      lets = h.lets;
      are_lets = h.are_lets;
      number = h.number;
      one = h.one;
      names_are = h.names_are;
      block_is = h.block_is;
      types_are = refl;
      span_is = h.span_is;
    },
  ),
)

some_inside : {A : Type 0} (x y : A) → Some x ≡ Some y → x ≡ y
some_inside x y e = cc

pub included_instance : (program : Program) (from c : Stated) (i : Instance) → Includes program from i → IsOfInstance program i from.span c → IsIncluded program from c
included_instance program from c i a b =
    let declared : b.declared ≡ a.declared = some_inside b.declared a.declared (sym b.lookup_is ∙ a.lookup_is) in
    let types : i.types ≡ c.types = sym b.types_are in
    let lets : C.AreLets (λ before. C.clause_system program (C.schema_names a.declared i.types before) i.block i.types) a.declared.clauses b.lets =
    subst (λ (d : Schema). C.AreLets (λ before. C.clause_system program (C.schema_names d i.types before) i.block i.types) d.clauses b.lets) declared b.are_lets in
    record {
      schema = i.schema;
      types = a.types;
      given = a.given;
      form_is = a.form_is;
      declared = a.declared;
      lookup_is = a.lookup_is;
      same_length = a.same_length ∙ ap (λ (ts : TypesData). length (list_of_types ts)) types;
      arguments = subst (λ (ts : TypesData). (k : ℕ) (of : TypeData) → slice_get (list_of_types ts) k ≡ Some of
          → HasType (stated_system program from) (spec_variable_count (C.clause_setting program from.names from.block from.types from.clause) + k) of) types a.arguments;
      lets = b.lets;
      are_lets = subst (λ (block : C.Block). C.AreLets (λ before. C.clause_system program (C.schema_names a.declared c.types before) block c.types) a.declared.clauses b.lets) a.block_is
          (subst (λ (ts : TypesData). C.AreLets (λ before. C.clause_system program (C.schema_names a.declared ts before) i.block ts) a.declared.clauses b.lets) types lets);
      names_are = b.names_are ∙ ap (λ (d : Schema). C.schema_names d i.types (take b.number b.lets)) declared ∙ ap (λ (ts : TypesData). C.schema_names a.declared ts (take b.number b.lets)) types;
      block_is = b.block_is ∙ a.block_is;
      number = b.number;
      one = subst (λ (d : Schema). slice_get d.clauses b.number ≡ Some c.clause) declared b.one;
      span_is = b.span_is;
    }

-- ---- the setting of a clause

pub root_of : (program : Program) (c : Stated) → IsStated program c → (r : Stated) × (IsRoot program r × IsReached program r c)
root_of program d (F.OfFunction id f c there own) = (c, (R.OfFunction id f there own, R.Here))
root_of program d (F.OfLoop id f c there own) = (c, (R.OfLoop id f there own, R.Here))
root_of program d (F.OfStruct id s c there own) = (c, (R.OfStruct id s there own, R.Here))
root_of program d (F.OfModule id m c there own) = (c, (R.OfModule id m there own, R.Here))
root_of program d (F.OfSchema from c stands included) =
    let r = root_of program from stands in
    (r.0, (r.1.0, R.Over from c r.1.1 included))

pub root_stands : (program : Program) (r : Stated) → IsRoot program r → IsStated program r
root_stands program r (R.OfFunction id f there own) = F.OfFunction id f r there own
root_stands program r (R.OfLoop id f there own) = F.OfLoop id f r there own
root_stands program r (R.OfStruct id s there own) = F.OfStruct id s r there own
root_stands program r (R.OfModule id m there own) = F.OfModule id m r there own
