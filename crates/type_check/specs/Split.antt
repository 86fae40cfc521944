-- The typing rules, split into those of code and those of specifications.
use Rattle.std.specs.Prelude.{◌≡◌, ◌⊎◌, ℕ, false, List, Contains, Some}
use Rattle.std.specs.Map.{lookup}
use Rattle.base.specs.TypeData.{TypesData}
use Rattle.base.specs.declared.span.Span.{Span}
use Rattle.base.specs.declared.types.FunctionId.{FunctionId}
use Rattle.program.specs.declared.clause.ClauseForm.TheVariants.{Include}
use Rattle.program.specs.declared.declaration.Constant.{Constant}
use Rattle.program.specs.declared.declaration.Function.{Function}
use Rattle.program.specs.declared.declaration.Schema.{Schema}
use Rattle.program.specs.declared.declaration.SpecFunction.{SpecFunction}
use Rattle.program.specs.declared.declaration.Struct.{Struct}
use Rattle.program.specs.declared.program.Program.{Program}
use Rattle.program.specs.declared.program.SchemaId.{SchemaId}
use Rattle.program.specs.Same.{same_schema}
use Rattle.program.specs.CodeNodes.{CodeNode}
use Rattle.typing_rules.specs.Answers.{System, IsUntypable, IsAmbiguous}
use Rattle.typing_rules.specs.CodeSystems.{function_system, constant_system}
use Rattle.typing_rules.specs.Clauses.{spec_function_system}
use Rattle.typing_rules.specs.Fitting.{Misfits}
use Rattle.typing_rules.specs.Calls.{IsWrapping}
use Rattle.typing_rules.specs.Faults.{Stated, IsStated, stated_system, RunFails, fields_are_proper, spec_signature_is_proper, variables_are_proper}

-- one of these declarations, which are identified by their first tokens, has this span and the property
abbrev pub OneAt : {A : Type 0} → (A → Span) → (A → Type 0) → List A → Span → Type 0
OneAt {A} span_of IsSo declarations span = (d : A) × Contains declarations d × (span_of d ≡ span) × IsSo d

abbrev pub FunctionAt : Program → (FunctionId → Function → Type 0) → Span → Type 0
FunctionAt program IsSo = OneAt (λ d. d.1.span) (λ d. IsSo d.0 d.1) program.functions

abbrev pub ConstantAt : Program → (Constant → Type 0) → Span → Type 0
ConstantAt program IsSo = OneAt (λ d. d.1.span) (λ d. IsSo d.1) program.constants

abbrev pub StructAt : Program → (Struct → Type 0) → Span → Type 0
StructAt program IsSo = OneAt (λ d. d.1.span) (λ d. IsSo d.1) program.structs

-- ---- code

-- no typing, or a number literal that does not fit its type
abbrev pub IsIllTyped : System → List CodeNode → Type 0
IsIllTyped s nodes = IsUntypable s ⊎ Misfits s nodes

abbrev pub FunctionBreaks : Program → FunctionId → Function → Type 0
FunctionBreaks program id f = IsIllTyped (function_system program f) f.body.nodes ⊎ IsWrapping program id

abbrev pub ConstantBreaks : Program → Constant → Type 0
ConstantBreaks program c = IsIllTyped (constant_system program c) c.value.nodes ⊎ RunFails program c

abbrev pub StructBreaks : Program → Struct → Type 0
StructBreaks program s = fields_are_proper program s ≡ false

-- a function or a constant has no typing, or one in which a number literal does not fit its type, or a function has
-- polymorphic recursion, or a run of a constant fails, or a field has a type that it may not have
abbrev pub CodeBreaksTyping : Program → Span → Type 0
CodeBreaksTyping program span =
    FunctionAt program (FunctionBreaks program) span ⊎ (ConstantAt program (ConstantBreaks program) span ⊎ StructAt program (StructBreaks program) span)

abbrev pub FunctionIsOpen : Program → FunctionId → Function → Type 0
FunctionIsOpen program id f = IsAmbiguous (function_system program f)

abbrev pub ConstantIsOpen : Program → Constant → Type 0
ConstantIsOpen program c = IsAmbiguous (constant_system program c)

-- a function or a constant has typings, and a head is open, or the type of a type variable is not forced
abbrev pub CodeIsUnsettled : Program → Span → Type 0
CodeIsUnsettled program span = FunctionAt program (FunctionIsOpen program) span ⊎ ConstantAt program (ConstantIsOpen program) span

-- ---- specifications

-- a spec function or a clause has no typing, or a specification declares a type that it may not declare
pub data SpecBreaksTyping (program : Program) (span : Span) : Type 0 where
  NoSpecFunction : (id : FunctionId) (f : SpecFunction) → Contains program.spec_functions (id, f) → f.span ≡ span → IsUntypable (spec_function_system program f) → SpecBreaksTyping program span
  BadSpecFunction : (id : FunctionId) (f : SpecFunction) → Contains program.spec_functions (id, f) → f.span ≡ span → spec_signature_is_proper program f ≡ false → SpecBreaksTyping program span
  NoClause : (c : Stated) → IsStated program c → c.span ≡ span → IsUntypable (stated_system program c) → SpecBreaksTyping program span
  BadSchema : (c : Stated) (schema : SchemaId) (types : TypesData) (given : List ℕ) (s : Schema) → IsStated program c → c.span ≡ span
      → c.clause.form ≡ Include schema types given → lookup (same_schema schema) program.schemas ≡ Some s → variables_are_proper program s ≡ false → SpecBreaksTyping program span

-- a spec function or a clause has typings, and a head is open, or the type of a type variable is not forced
pub data SpecIsUnsettled (program : Program) (span : Span) : Type 0 where
  OpenSpecFunction : (id : FunctionId) (f : SpecFunction) → Contains program.spec_functions (id, f) → f.span ≡ span → IsAmbiguous (spec_function_system program f) → SpecIsUnsettled program span
  OpenClause : (c : Stated) → IsStated program c → c.span ≡ span → IsAmbiguous (stated_system program c) → SpecIsUnsettled program span
