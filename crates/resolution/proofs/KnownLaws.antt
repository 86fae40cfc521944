-- A resolved declaration has no use without a meaning.
use Rattle.std.proofs.Common.{◌≡◌, inl, inr, ℕ, ◌+◌, List, [], ◌∷◌, ◌++◌, Option, Some, None, subst}
use Rattle.base.specs.declared.span.Span.{Span}
use Rattle.program.specs.declared.clause.Clause.{Clause}
use Rattle.program.specs.declared.clause.ClauseForm.{ClauseForm}
use Rattle.body_names.specs.SpecForms.{SpecTrees}
use Rattle.body_names.specs.declared.spec.outer.OuterName.{OuterName}
use Rattle.resolution.specs.ClauseForms.{IsMadeOf, IsUnknown}
use Rattle.resolution.specs.Clauses.{AreClausesOf, HasUnknownAmong, PlacedClause, entered, placed}
use Rattle.resolution.specs.Setting.{ClauseScope}
use Rattle.syntax_tree.specs.declared.member.Struct.{Struct as StructTree}
use Rattle.syntax_tree.specs.declared.clause.Schema.{Schema as SchemaTree}
use Rattle.program.specs.declared.declaration.Schema.{Schema as SchemaData}
use Rattle.scopes.specs.EnvironmentData.{EnvironmentData}
use Rattle.resolution.specs.Declarations.{HasUnknownInStruct}
use Rattle.resolution.specs.Parameters.{among, typed_names}
use Rattle.resolution.specs.Around.{around_schema}
use Rattle.resolution.specs.SpecDeclarations.{HasUnknownInSchema, IsSchemaOf, schema_scope, schema_variables, spec_types, variables_in}
use Rattle.resolution.specs.declared.declared.DeclaredForm.{DeclaredForm}
use Rattle.resolution.specs.declared.declared.DeclaredForm.TheVariants.{Module, Struct as struct_form, Constant as constant_form, Function as function_form, SpecFunction as spec_function_form, Schema as schema_form}
use Rattle.resolution.specs.Known.{Schemas}
use Rattle.resolution.specs.Items.{Here}
use Rattle.resolution.specs.Parts.{IsBare}
use Rattle.resolution.specs.Programs.{StructOf, SchemaOf}

some_none : {A : Type 0} (o : Option A) (x : A) → o ≡ Some x → o ≡ None → ⊥
some_none o x e f = cc

pub known_made : {trees : SpecTrees} {spans : List Span} {form : Option ClauseForm} {block span : Span} {clause : Clause} → IsMadeOf trees spans form block span clause → IsUnknown trees form → ⊥
known_made made (inl f) = f made.sound
known_made {trees} {spans} {form} {block} {span} {clause} made (inr e) = some_none form clause.form made.form_is e

pub known_clauses : (w : ClauseScope) (outer : List OuterName) (n : ℕ) (ts : List PlacedClause) (cs : List Clause) → AreClausesOf w outer n ts cs → HasUnknownAmong w outer n ts → ⊥
known_clauses w outer n [] cs a h = h
known_clauses w outer n (t ∷ ts) [] a h = a
known_clauses w outer n (t ∷ ts) (c ∷ cs) a (inl h) = known_made a.0 h
known_clauses w outer n (t ∷ ts) (c ∷ cs) a (inr h) = known_clauses w (outer ++ entered n t.tree) (1 + n) ts cs a.1 h

pub same_unknown : {w v : ClauseScope} {os ps : List OuterName} {n m : ℕ} (ts : List PlacedClause) → w ≡ v → os ≡ ps → n ≡ m → HasUnknownAmong w os n ts → HasUnknownAmong v ps m ts
same_unknown {w} {v} {os} {ps} {n} {m} ts e f g h =
    subst (λ k. HasUnknownAmong v ps k ts) g (subst (λ xs. HasUnknownAmong v xs n ts) f (subst (λ u. HasUnknownAmong u os n ts) e h))

-- ---- declarations

pub bare_struct_known : (w : Here) (n : ℕ) (s : StructTree) (form : DeclaredForm) → IsBare (StructOf w n s) form → HasUnknownInStruct w.environment s → ⊥
bare_struct_known w n s (struct_form id r) b h = some_none (typed_names (among w.environment s.parameters) s.fields.items) r.fields b.is_struct.fields h
bare_struct_known w n s (Module id r) b h = b
bare_struct_known w n s (constant_form id r) b h = b
bare_struct_known w n s (function_form id r) b h = b
bare_struct_known w n s (spec_function_form id r) b h = b
bare_struct_known w n s (schema_form id r) b h = b

schema_known : (env : EnvironmentData) (schemas : Schemas) (s : SchemaTree) (r : SchemaData) → IsSchemaOf env schemas s r → HasUnknownInSchema env schemas s → ⊥
schema_known env schemas s r is (inl e) = some_none (typed_names (spec_types env s.parameters) (variables_in s.clauses)) r.variables is.variables e
schema_known env schemas s r is (inr h) = known_clauses (schema_scope env schemas s) (around_schema (schema_variables s.clauses)) 0 (placed s.span s.clauses) r.clauses is.clauses h

pub bare_schema_known : (w : Here) (s : SchemaTree) (form : DeclaredForm) → IsBare (SchemaOf w s) form → HasUnknownInSchema w.environment w.schemas s → ⊥
bare_schema_known w s (schema_form id r) b h = schema_known w.environment w.schemas s r b.is_schema h
bare_schema_known w s (Module id r) b h = b
bare_schema_known w s (struct_form id r) b h = b
bare_schema_known w s (constant_form id r) b h = b
bare_schema_known w s (function_form id r) b h = b
bare_schema_known w s (spec_function_form id r) b h = b
