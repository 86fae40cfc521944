-- Proper clauses and spec blocks: those of the grammar. Beside the spelling, the grammar has rules on names, on last
-- commas, on the clauses that are allowed in a block, and on the word `update`. Source: the Move Specification Language
-- reference, "Spec Blocks and Conditions".
use Rattle.std.specs.Prelude.{◌≡◌, ℕ, true, false, List, Option, Some, None, codes}
use Rattle.std.specs.List.{AllByRecursion}
use Rattle.syntax_tree.specs.declared.path.Path.{Path}
use Rattle.syntax_tree.specs.declared.path.Path.TheVariants.{Name as name_path}
use Rattle.syntax_tree.specs.NameRules.{IsName, IsCapital}
use Rattle.syntax_tree.specs.TypeTreeData.{maybe_arguments_of, NoArguments}
use Rattle.syntax_tree.specs.ProperTypes.{IsProperNumeral, IsProperPath, IsProperType, AreProperMaybeArguments}
use Rattle.syntax_tree.specs.ProperMembers.{AreAny, AreProperParameters, IsProperField, IsProperInput}
use Rattle.syntax_tree.specs.SpecExpressionData.{SpecExpressionData, SpecBinary, SpecField, SpecIndex, SpecCall}
use Rattle.syntax_tree.specs.ProperSpecExpressions.{IsProperSpec, IsProperField as IsProperBinding}
use Rattle.syntax_tree.specs.declared.clause.PragmaValue.{PragmaValue}
use Rattle.syntax_tree.specs.declared.clause.PragmaValue.TheVariants.{Truth as truth_value, Number as number_value}
use Rattle.syntax_tree.specs.declared.clause.Pragma.{Pragma}
use Rattle.syntax_tree.specs.declared.clause.AbortCode.{AbortCode}
use Rattle.syntax_tree.specs.declared.clause.AbortCode.TheVariants.{Bare}
use Rattle.syntax_tree.specs.declared.clause.Include.{Include}
use Rattle.syntax_tree.specs.declared.clause.Clause.{Clause}
use Rattle.syntax_tree.specs.declared.clause.Clause.TheVariants.{Pragma as pragma_clause, Requires as requires_clause, Ensures as ensures_clause, AbortsIf as aborts_if_clause, Modifies as modifies_clause, Invariant as invariant_clause, Let as let_clause, Include as include_clause, Variable as variable_clause}
use Rattle.syntax_tree.specs.declared.clause.Schema.{Schema}
use Rattle.syntax_tree.specs.declared.clause.SpecFunction.{SpecFunction}
use Rattle.syntax_tree.specs.declared.clause.Spec.{Spec}
use Rattle.syntax_tree.specs.declared.clause.Spec.TheVariants.{Module as module_spec, Named as named_spec, Schema as schema_spec, Function as function_spec, Loop as loop_spec}
use Rattle.syntax_tree.specs.ClauseData.{PragmasData, TargetsData, BindingsData}
use Rattle.syntax_tree.specs.declared.slot.Slot.{Slot}
use Rattle.syntax_tree.specs.declared.slot.Slot.TheVariants.{Function as of_function, Struct as of_struct, Module as of_module, Schema as of_schema, SpecFunction as of_spec_function, Loop as of_loop}
use Rattle.syntax_tree.specs.Slots.{MayHold}

-- ---- parts of clauses

abbrev pub IsProperPragmaValue : Option PragmaValue → Type 0
IsProperPragmaValue None = Unit {0}
IsProperPragmaValue (Some (truth_value span value)) = Unit {0}
IsProperPragmaValue (Some (number_value n)) = IsProperNumeral n

abbrev pub IsProperPragma : Pragma → Type 0
IsProperPragma p = IsName p.name.text × IsProperPragmaValue p.value

abbrev pub AreProperPragmas : PragmasData → Type 0
AreProperPragmas p = AllByRecursion IsProperPragma p.items × AreAny p.items

-- abort codes are not supported yet
abbrev pub IsProperCode : AbortCode → Type 0
IsProperCode Bare = Unit {0}
IsProperCode _ = ⊥

abbrev pub AreProperTargets : TargetsData → Type 0
AreProperTargets t = AllByRecursion IsProperSpec t.items × AreAny t.items

abbrev pub AreProperBindings : Option BindingsData → Type 0
AreProperBindings None = Unit {0}
AreProperBindings (Some b) = AllByRecursion IsProperBinding b.items × (b.last_comma ≡ true → AreAny b.items)

abbrev pub IsProperInclude : Include → Type 0
IsProperInclude i =
    IsProperPath i.schema × AreProperMaybeArguments (maybe_arguments_of i.arguments) × AreProperBindings i.bindings

abbrev pub IsWord : List ℕ → Path → Type 0
IsWord word (name_path n) = n.text ≡ word
IsWord word _ = ⊥

-- the first tokens are this word and a parenthesis
abbrev pub BeginsAsCall : List ℕ → SpecExpressionData → Type 0
BeginsAsCall word (SpecBinary left operator span right) = BeginsAsCall word left
BeginsAsCall word (SpecField base field) = BeginsAsCall word base
BeginsAsCall word (SpecIndex base index) = BeginsAsCall word base
BeginsAsCall word (SpecCall function NoArguments values last) = IsWord word function
BeginsAsCall word _ = ⊥

-- ---- clauses

-- `update` is a keyword where the token after it can begin an expression
abbrev pub IsProperForm : Clause → Type 0
IsProperForm (pragma_clause span p) = AreProperPragmas p
IsProperForm (requires_clause span e) = IsProperSpec e
IsProperForm (ensures_clause span e) = IsProperSpec e
IsProperForm (aborts_if_clause span e code) = IsProperSpec e × IsProperCode code
IsProperForm (modifies_clause span t) = AreProperTargets t
IsProperForm (invariant_clause span is_update e) =
    IsProperSpec e × (is_update ≡ false → BeginsAsCall (codes "update") e → ⊥)
IsProperForm (let_clause span is_post name e) = IsName name.text × IsProperSpec e
IsProperForm (include_clause i) = IsProperInclude i
IsProperForm (variable_clause n) = IsProperField n

abbrev pub IsProperClause : Slot → Clause → Type 0
IsProperClause slot c = MayHold slot c × IsProperForm c

abbrev pub AreProperClauses : Slot → List Clause → Type 0
AreProperClauses slot clauses = AllByRecursion (IsProperClause slot) clauses

-- ---- blocks

abbrev pub IsProperSchema : Schema → Type 0
IsProperSchema s =
    IsName s.name.text × IsCapital s.name.text × AreProperParameters false s.parameters × AreProperClauses of_schema s.clauses

abbrev pub IsProperSpecFunction : SpecFunction → Type 0
IsProperSpecFunction f =
    IsName f.name.text × AreProperParameters false f.parameters
    × AllByRecursion IsProperInput f.inputs.items × (f.inputs.last_comma ≡ true → AreAny f.inputs.items)
    × IsProperType f.result × IsProperSpec f.body

-- a block of this kind
abbrev pub IsProperBlock : Slot → Spec → Type 0
IsProperBlock of_function (named_spec span name clauses) = IsName name.text × AreProperClauses of_function clauses
IsProperBlock of_struct (named_spec span name clauses) = IsName name.text × AreProperClauses of_struct clauses
IsProperBlock of_module (module_spec span clauses) = AreProperClauses of_module clauses
IsProperBlock of_schema (schema_spec s) = IsProperSchema s
IsProperBlock of_spec_function (function_spec f) = IsProperSpecFunction f
IsProperBlock of_loop (loop_spec span clauses) = AreProperClauses of_loop clauses
IsProperBlock _ _ = ⊥
