-- Cycles of declarations: modules that use one another, structs whose fields lead back to them, spec functions that
-- call themselves and schemas that include themselves, over any number of steps. Source: The Move Book, "Uses and
-- Aliases": modules have no cycles, and "Structs and Resources": structs are not recursive; spec functions and schemas
-- are abbreviations (the Move Specification Language reference, "Spec Functions" and "Schemas").
use Rattle.std.specs.Prelude.{◌≡◌, ℕ, List, [], ◌∷◌, map, All, Contains, Option, Some, None, slice_get}
use Rattle.base.specs.declared.span.Span.{Span}
use Rattle.program.specs.declared.program.ModuleId.{ModuleId}
use Rattle.program.specs.declared.program.Program.{Program}
use Rattle.program.specs.Order.{IsFirst, IsFirstOrNone}
use Rattle.declaration_cycles.specs.declared.edges.Edge.{Edge}
use Rattle.declaration_cycles.specs.declared.first.DeclarationKind.{DeclarationKind}
use Rattle.declaration_cycles.specs.declared.first.DeclarationKind.TheVariants.{Module, Struct, SpecFunction, Schema}
use Rattle.declaration_cycles.specs.Leading.{LeadsBack}
use Rattle.declaration_cycles.specs.Edges.{module_edges, struct_edges, spec_function_edges, schema_edges}

-- declarations of one kind: their spans by index, and their dependencies
pub record Kind : Type 0 where
  pub spans : List Span
  pub edges : List Edge

-- the kinds in which cycles are possible, given the modules that the `use`s of each module name
abbrev pub module_kind : Program → List (List ModuleId) → Kind
module_kind p uses = record { spans = map (λ e. e.1.span) p.modules; edges = module_edges p uses }

abbrev pub struct_kind : Program → Kind
struct_kind p = record { spans = map (λ e. e.1.span) p.structs; edges = struct_edges p }

abbrev pub spec_function_kind : Program → Kind
spec_function_kind p = record { spans = map (λ e. e.1.span) p.spec_functions; edges = spec_function_edges p }

abbrev pub schema_kind : Program → Kind
schema_kind p = record { spans = map (λ e. e.1.span) p.schemas; edges = schema_edges p }

abbrev pub kinds_of : Program → List (List ModuleId) → List Kind
kinds_of p uses = module_kind p uses ∷ struct_kind p ∷ spec_function_kind p ∷ schema_kind p ∷ []

-- no declaration is on a cycle
abbrev pub HasNoCycle : Kind → Type 0
HasNoCycle kind = (i : ℕ) → ¬ LeadsBack kind.edges i

abbrev pub HaveNoCycles : List Kind → Type 0
HaveNoCycles kinds = All HasNoCycle kinds

-- the spans of the declarations of a kind, by index
abbrev pub spans_in : Program → DeclarationKind → List Span
spans_in p Module = map (λ e. e.1.span) p.modules
spans_in p Struct = map (λ e. e.1.span) p.structs
spans_in p SpecFunction = map (λ e. e.1.span) p.spec_functions
spans_in p Schema = map (λ e. e.1.span) p.schemas

-- a declaration at one of these indices has this span
abbrev pub IsSpanAmong : List Span → List ℕ → Span → Type 0
IsSpanAmong spans numbers span = (i : ℕ) × Contains numbers i × (slice_get spans i ≡ Some span)

-- a declaration of the kind with this span is on a cycle
abbrev pub IsKindCircular : Kind → Span → Type 0
IsKindCircular kind span = (i : ℕ) × (slice_get kind.spans i ≡ Some span) × LeadsBack kind.edges i

-- a declaration with this span is on a cycle
abbrev pub IsCircular : List Kind → Span → Type 0
IsCircular kinds span = (kind : Kind) × Contains kinds kind × IsKindCircular kind span

-- ---- results, kind by kind

-- the first span of the declarations of a kind that are on a cycle
abbrev pub IsKindVerdict : Kind → Option Span → Type 0
IsKindVerdict kind None = HasNoCycle kind
IsKindVerdict kind (Some span) = IsFirst (IsKindCircular kind) span

-- the first span of the declarations of these kinds that are on a cycle
pub record IsFirstCycle (kinds : List Kind) (found : Option Span) : Type 0 where
  pub clear : found ≡ None → HaveNoCycles kinds
  pub first : IsFirstOrNone (IsCircular kinds) found
