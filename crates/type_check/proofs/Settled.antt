-- If all types of a program are determined, all its systems are settled.
use Rattle.std.proofs.Common.{◌≡◌, ℕ, suc, List, [], ◌∷◌, ◌++◌, length, Some, refl, ◌∙◌, ap, arith}
use Rattle.std.specs.Prelude.{Contains, slice_get}
use Rattle.std.proofs.lemmas.Option.{slice_get_within}
use Rattle.base.specs.Pairs.{Paired}
use Rattle.base.specs.declared.types.FunctionId.{FunctionId}
use Rattle.program.specs.declared.declaration.Constant.{Constant}
use Rattle.program.specs.declared.declaration.Function.{Function}
use Rattle.program.specs.declared.declaration.SpecFunction.{SpecFunction}
use Rattle.program.specs.declared.program.ConstantId.{ConstantId}
use Rattle.program.specs.declared.program.Program.{Program}
use Rattle.program.specs.CodeNodes.{CodeNode}
use Rattle.typing_rules.specs.Answers.{System}
use Rattle.typing_rules.specs.CodeSystems.{constant_system, function_system}
use Rattle.typing_rules.specs.Clauses.{spec_function_system}
use Rattle.typing_rules.specs.Faults.{IsStated, NoClause, NoConstant, NoFunction, NoSpecFunction, OpenClause, OpenConstant, OpenFunction, OpenSpecFunction, Stated, stated_system}
use Rattle.body_types.specs.CodeTyped.{TypingSays}
use Rattle.type_check.specs.Functions.{AreTypings, IsTypingOf}
use Rattle.type_check.specs.declared.code.functions.FunctionTyping.{FunctionTyping}
use Rattle.type_check.proofs.SchemasLists.{at_contained, some_at}
use Rattle.type_check.specs.Answers.{IsDetermined}
use Rattle.type_check.specs.Tables.{IsSettled, IsTable}
use Rattle.type_check.specs.declared.typed_program.TypeTable.{TypeTable}
use Rattle.type_check.proofs.TypedProgramLists.{get_front}

module _ (program : Program) (determined : IsDetermined program) where
  pub settled_function : (id : FunctionId) (f : Function) → Contains program.functions (id, f) → IsSettled (function_system program f)
  settled_function id f there = (
    (λ none. determined.typed f.span (NoFunction id f there refl none)),
    (λ unsettled. determined.settled f.span (OpenFunction id f there refl unsettled)),
  )

  pub settled_constant : (id : ConstantId) (c : Constant) → Contains program.constants (id, c) → IsSettled (constant_system program c)
  settled_constant id c there = (
    (λ none. determined.typed c.span (NoConstant id c there refl none)),
    (λ unsettled. determined.settled c.span (OpenConstant id c there refl unsettled)),
  )

  pub settled_spec_function : (id : FunctionId) (f : SpecFunction) → Contains program.spec_functions (id, f) → IsSettled (spec_function_system program f)
  settled_spec_function id f there = (
    (λ none. determined.typed f.span (NoSpecFunction id f there refl none)),
    (λ unsettled. determined.settled f.span (OpenSpecFunction id f there refl unsettled)),
  )

  pub settled_clause : (c : Stated) → IsStated program c → IsSettled (stated_system program c)
  settled_clause c stands = (
    (λ none. determined.typed c.span (NoClause c stands refl none)),
    (λ unsettled. determined.settled c.span (OpenClause c stands refl unsettled)),
  )

  -- the typing of one of all functions, with others before and after it
  pub settled_typing : (all : List FunctionTyping) (front : List FunctionTyping) (x : FunctionTyping) (back : List FunctionTyping) → AreTypings program all → all ≡ front ++ x ∷ back
      → (s : System) × (nodes : List CodeNode) × IsSettled s × TypingSays s nodes x.pool x.typing
  settled_typing all front x back are parts =
      let n = length front in
      let at : slice_get all n ≡ Some x = ap (λ (xs : List FunctionTyping). slice_get xs n) parts ∙ get_front front x back in
      let within = slice_get_within all n x at in
      let size = are.same_length in
      let d = some_at program.functions n (omega (arith, within, size)) in (
        function_system program d.0.1,
        d.0.1.body.nodes,
        settled_function d.0.0 d.0.1 (at_contained program.functions n d.0 d.1),
        (are.each n x at d.0.0 d.0.1 d.1).says,
      )

-- ---- tables made of typings

abbrev pub TellsCode : FunctionTyping → TypeTable → Type 0
TellsCode typing table = (s : System) (nodes : List CodeNode) → TypingSays s nodes typing.pool typing.typing → IsTable s table

tables_of : (program : Program) (functions : List (FunctionId × Function)) (typings : List FunctionTyping) (tables : List TypeTable) → length typings ≡ length functions
    → ((n : ℕ) (t : FunctionTyping) → slice_get typings n ≡ Some t → (id : FunctionId) (f : Function) → slice_get functions n ≡ Some (id, f) → IsTypingOf program f t)
    → Paired TellsCode typings tables → Paired (λ f t. IsTable (function_system program f.1) t) functions tables
tables_of program [] [] [] size each p = tt
tables_of program [] [] (x ∷ xs) size each p = absurd p
tables_of program [] (t ∷ ts) tables size each p = absurd (omega (arith, size))
tables_of program (f ∷ fs) [] tables size each p = absurd (omega (arith, size))
tables_of program (f ∷ fs) (t ∷ ts) [] size each p = absurd p
tables_of program (f ∷ fs) (t ∷ ts) (x ∷ xs) size each p = (
  p.0 (function_system program f.1) f.1.body.nodes (each 0 t refl f.0 f.1 refl).says,
  tables_of program fs ts xs (omega (arith, size)) (λ n u at id g there. each (suc n) u at id g there) p.1,
)

pub all_tables : (program : Program) (typings : List FunctionTyping) (tables : List TypeTable) → AreTypings program typings → Paired TellsCode typings tables
    → Paired (λ f t. IsTable (function_system program f.1) t) program.functions tables
all_tables program typings tables are p = tables_of program program.functions typings tables are.same_length are.each p
