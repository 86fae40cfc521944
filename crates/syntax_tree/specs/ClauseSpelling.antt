-- How spec blocks and their clauses are spelled. Source: the Move Specification Language reference, "Pragmas and
-- Properties", "Pre and Post State", "Spec Blocks and Conditions", "Helper Functions" and "Schemas".
--     Spec    = "spec" ( "module" | Word ) "{" { Clause } "}"
--             | "spec" "schema" Word [ TParams ] "{" { Clause } "}"
--             | "spec" "fun" Word [ TParams ] "(" [ Word ":" Type, .. ] ")" ":" Type "{" SExp "}"
--     Clause  = "pragma" Word [ "=" ( "true" | "false" | Number ) ], .. ";"
--             | ( "requires" | "ensures" ) SExp ";"
--             | "aborts_if" SExp [ "with" ( "EXECUTION_FAILURE" | SExp ) ] ";"
--             | "modifies" SExp, .. ";"
--             | "invariant" [ "update" ] SExp ";" | "let" [ "post" ] Word "=" SExp ";"
--             | "include" Path [ TArgs ] [ "{" [ Word [ ":" SExp ], .. ] "}" ] ";"
--             | Word ":" Type ";"                      (a schema's variable)
use Rattle.std.specs.Prelude.{Bool, true, false, List, [], ◌∷◌, ◌++◌, Option, None, Some, codes, map}
use Rattle.std.specs.List.{flat_map}
use Rattle.base.specs.declared.span.Span.{Span}
use Rattle.tokens.specs.declared.token.Punctuation.TheVariants.{LeftBrace, RightBrace, Colon, Semicolon, Equal}
use Rattle.syntax_tree.specs.declared.lexeme.Lexeme.{Lexeme}
use Rattle.syntax_tree.specs.Lexemes.{word, identifier, numeral, sign, comma_list}
use Rattle.syntax_tree.specs.PathSpelling.{path_spelling}
use Rattle.syntax_tree.specs.TypeTreeData.{maybe_arguments_of}
use Rattle.syntax_tree.specs.TypeSpelling.{type_spelling, maybe_arguments_spelling}
use Rattle.syntax_tree.specs.MemberSpelling.{parameters_spelling, inputs_spelling, typed_name_spelling}
use Rattle.syntax_tree.specs.SpecExpressionData.{SpecExpressionData, spec_expressions_of, spec_fields_of}
use Rattle.syntax_tree.specs.SpecExpressionSpelling.{spec_spelling, spec_spellings, spec_field_spellings}
use Rattle.syntax_tree.specs.ClauseData.{PragmasData, TargetsData, BindingsData}
use Rattle.syntax_tree.specs.declared.clause.PragmaValue.{PragmaValue}
use Rattle.syntax_tree.specs.declared.clause.PragmaValue.TheVariants.{Truth as truth_value, Number as number_value}
use Rattle.syntax_tree.specs.declared.clause.Pragma.{Pragma}
use Rattle.syntax_tree.specs.declared.clause.AbortCode.{AbortCode}
use Rattle.syntax_tree.specs.declared.clause.AbortCode.TheVariants.{Bare, Failure, Code}
use Rattle.syntax_tree.specs.declared.clause.Include.{Include}
use Rattle.syntax_tree.specs.declared.clause.Clause.{Clause}
use Rattle.syntax_tree.specs.declared.clause.Clause.TheVariants.{Pragma as pragma_clause, Requires as requires_clause, Ensures as ensures_clause, AbortsIf as aborts_if_clause, Modifies as modifies_clause, Invariant as invariant_clause, Let as let_clause, Include as include_clause, Variable as variable_clause}
use Rattle.syntax_tree.specs.declared.clause.Schema.{Schema}
use Rattle.syntax_tree.specs.declared.clause.SpecFunction.{SpecFunction}
use Rattle.syntax_tree.specs.declared.clause.Spec.{Spec}
use Rattle.syntax_tree.specs.declared.clause.Spec.TheVariants.{Module as module_spec, Named as named_spec, Schema as schema_spec, Function as function_spec, Loop as loop_spec}

-- ---- words

unfoldable pub requires_word : Span → Lexeme
requires_word span = word (codes "requires") (Some span)

unfoldable pub ensures_word : Span → Lexeme
ensures_word span = word (codes "ensures") (Some span)

unfoldable pub aborts_if_word : Span → Lexeme
aborts_if_word span = word (codes "aborts_if") (Some span)

unfoldable pub modifies_word : Span → Lexeme
modifies_word span = word (codes "modifies") (Some span)

unfoldable pub invariant_word : Span → Lexeme
invariant_word span = word (codes "invariant") (Some span)

unfoldable pub include_word : Span → Lexeme
include_word span = word (codes "include") (Some span)

unfoldable pub failure_word : Lexeme
failure_word = word (codes "EXECUTION_FAILURE") None

-- ---- parts of clauses

abbrev pub truth_spelling : Span → Bool → List Lexeme
truth_spelling span true = word (codes "true") (Some span) ∷ []
truth_spelling span false = word (codes "false") (Some span) ∷ []

abbrev pub pragma_value_spelling : Option PragmaValue → List Lexeme
pragma_value_spelling None = []
pragma_value_spelling (Some (truth_value span value)) = sign Equal ∷ truth_spelling span value
pragma_value_spelling (Some (number_value n)) = sign Equal ∷ numeral n ∷ []

abbrev pub pragma_spelling : Pragma → List Lexeme
pragma_spelling p = identifier p.name ∷ pragma_value_spelling p.value

abbrev pub pragmas_spelling : PragmasData → List Lexeme
pragmas_spelling p = comma_list (map pragma_spelling p.items) p.last_comma

abbrev pub code_spelling : AbortCode → List Lexeme
code_spelling Bare = []
code_spelling Failure = word (codes "with") None ∷ failure_word ∷ []
code_spelling (Code e) = word (codes "with") None ∷ spec_spelling e

abbrev pub targets_spelling : TargetsData → List Lexeme
targets_spelling t = comma_list (spec_spellings (spec_expressions_of t.items)) t.last_comma

abbrev pub update_spelling : Bool → List Lexeme
update_spelling false = []
update_spelling true = word (codes "update") None ∷ []

abbrev pub post_spelling : Bool → List Lexeme
post_spelling false = []
post_spelling true = word (codes "post") None ∷ []

abbrev pub bindings_spelling : Option BindingsData → List Lexeme
bindings_spelling None = []
bindings_spelling (Some b) = sign LeftBrace ∷ comma_list (spec_field_spellings (spec_fields_of b.items)) b.last_comma ++ sign RightBrace ∷ []

abbrev pub include_spelling : Include → List Lexeme
include_spelling i =
    include_word i.span ∷ path_spelling i.schema ++ maybe_arguments_spelling None (maybe_arguments_of i.arguments)
    ++ bindings_spelling i.bindings ++ sign Semicolon ∷ []

-- an expression, and the end of the clause
abbrev pub condition_spelling : SpecExpressionData → List Lexeme
condition_spelling e = spec_spelling e ++ sign Semicolon ∷ []

-- ---- clauses

abbrev pub clause_spelling : Clause → List Lexeme
clause_spelling (pragma_clause span p) = word (codes "pragma") (Some span) ∷ pragmas_spelling p ++ sign Semicolon ∷ []
clause_spelling (requires_clause span e) = requires_word span ∷ condition_spelling e
clause_spelling (ensures_clause span e) = ensures_word span ∷ condition_spelling e
clause_spelling (aborts_if_clause span e code) = aborts_if_word span ∷ spec_spelling e ++ code_spelling code ++ sign Semicolon ∷ []
clause_spelling (modifies_clause span t) = modifies_word span ∷ targets_spelling t ++ sign Semicolon ∷ []
clause_spelling (invariant_clause span is_update e) = invariant_word span ∷ update_spelling is_update ++ condition_spelling e
clause_spelling (let_clause span is_post name e) =
    word (codes "let") (Some span) ∷ post_spelling is_post ++ identifier name ∷ sign Equal ∷ condition_spelling e
clause_spelling (include_clause i) = include_spelling i
clause_spelling (variable_clause n) = typed_name_spelling n ++ sign Semicolon ∷ []

abbrev pub clauses_spelling : List Clause → List Lexeme
clauses_spelling clauses = flat_map clause_spelling clauses

-- ---- blocks

abbrev pub clause_block_spelling : List Clause → List Lexeme
clause_block_spelling clauses = sign LeftBrace ∷ clauses_spelling clauses ++ sign RightBrace ∷ []

abbrev pub schema_spelling : Schema → List Lexeme
schema_spelling s =
    word (codes "spec") (Some s.span) ∷ word (codes "schema") None ∷ identifier s.name ∷ parameters_spelling s.parameters
    ++ clause_block_spelling s.clauses

abbrev pub spec_function_head_spelling : SpecFunction → List Lexeme
spec_function_head_spelling f =
    word (codes "spec") (Some f.span) ∷ word (codes "fun") None ∷ identifier f.name ∷ parameters_spelling f.parameters

abbrev pub spec_function_body_spelling : SpecExpressionData → List Lexeme
spec_function_body_spelling e = sign LeftBrace ∷ spec_spelling e ++ sign RightBrace ∷ []

abbrev pub spec_function_spelling : SpecFunction → List Lexeme
spec_function_spelling f =
    spec_function_head_spelling f ++ inputs_spelling f.inputs ++ sign Colon ∷ type_spelling f.result
    ++ spec_function_body_spelling f.body

abbrev pub spec_tree_spelling : Spec → List Lexeme
spec_tree_spelling (module_spec span clauses) =
    word (codes "spec") (Some span) ∷ word (codes "module") None ∷ clause_block_spelling clauses
spec_tree_spelling (named_spec span name clauses) =
    word (codes "spec") (Some span) ∷ identifier name ∷ clause_block_spelling clauses
spec_tree_spelling (schema_spec s) = schema_spelling s
spec_tree_spelling (function_spec f) = spec_function_spelling f
spec_tree_spelling (loop_spec span clauses) = word (codes "spec") (Some span) ∷ clause_block_spelling clauses
