-- The reader of the clauses of spec blocks. The number bounds the nesting of types and expressions.
use Rattle.std.specs.Prelude.{ℕ, Bool, true, false, ◌||◌, if◌then◌else◌, List, [], ◌∷◌, Option, Some, None, is_some, option_and_then, codes}
use Rattle.std.specs.Option.{option_map, option_map_or}
use Rattle.base.specs.declared.span.Span.{Span}
use Rattle.tokens.specs.declared.token.Token.{Token}
use Rattle.tokens.specs.declared.token.TokenKind.{TokenKind}
use Rattle.tokens.specs.declared.token.TokenKind.TheVariants.{Word, Number, ByteString, Punctuation}
use Rattle.tokens.specs.declared.token.Punctuation.TheVariants.{LeftParenthesis, LeftBrace, RightBrace, Semicolon, Colon, Equal, Less, AtSign, Exclaim}
use Rattle.syntax_tree.specs.TypeTreeData.{SourceTypeData, ArgumentsData}
use Rattle.syntax_tree.specs.SpecExpressionData.{SpecExpressionData}
use Rattle.syntax_tree.specs.ClauseData.{BindingsData}
use Rattle.syntax_tree.specs.declared.clause.PragmaValue.{PragmaValue}
use Rattle.syntax_tree.specs.declared.clause.PragmaValue.TheVariants.{Truth as truth_value, Number as number_value}
use Rattle.syntax_tree.specs.declared.clause.Pragma.{Pragma}
use Rattle.syntax_tree.specs.declared.clause.AbortCode.TheVariants.{Bare}
use Rattle.syntax_tree.specs.declared.clause.Clause.{Clause}
use Rattle.syntax_tree.specs.declared.clause.Clause.TheVariants.{Pragma as pragma_clause, Requires as requires_clause, Ensures as ensures_clause, AbortsIf as aborts_if_clause, Modifies as modifies_clause, Invariant as invariant_clause, Let as let_clause, Include as include_clause, Variable as variable_clause}
use Rattle.parser_base.specs.TokenReading.{Read, is_sign, is_word, after_sign, after_word, identifier_at}
use Rattle.parser_base.specs.ListReading.{some_items_at, comma_list_at}
use Rattle.parser_base.specs.PathReading.{path_at}
use Rattle.parser_base.specs.TypeReading.{arguments_at, type_at}
use Rattle.parser_base.specs.LeafReading.{fitting_number_of}
use Rattle.expression_parser.specs.SpecReading.{spec_field_at, spec_at}
use Rattle.item_parser.specs.declared.spec.words.ClauseWord.{ClauseWord}
use Rattle.item_parser.specs.declared.spec.words.ClauseWord.TheVariants.{Pragma as pragma_word, Requires as requires_word, Ensures as ensures_word, AbortsIf as aborts_if_word, Modifies as modifies_word, Invariant as invariant_word, Let as let_word, Include as include_word}

-- ---- conditions

-- a spec expression up to the end of its clause
unfoldable pub condition_at : ℕ → List Token → Read SpecExpressionData
condition_at n ts = option_and_then (λ e. option_map (λ rest. (e.0, rest)) (after_sign Semicolon e.1)) (spec_at n true 0 ts)

unfoldable pub requires_at : ℕ → Span → List Token → Read Clause
requires_at n span ts = option_map (λ e. (requires_clause span e.0, e.1)) (condition_at n ts)

unfoldable pub ensures_at : ℕ → Span → List Token → Read Clause
ensures_at n span ts = option_map (λ e. (ensures_clause span e.0, e.1)) (condition_at n ts)

-- abort codes are not read
unfoldable pub aborts_if_at : ℕ → Span → List Token → Read Clause
aborts_if_at n span ts = option_map (λ e. (aborts_if_clause span e.0 Bare, e.1)) (condition_at n ts)

-- decides whether a token can begin a spec expression
abbrev pub opens_kind : TokenKind → Bool
opens_kind (Word name) = true
opens_kind (Number literal) = true
opens_kind (ByteString text) = false
opens_kind (Punctuation s) = is_sign LeftParenthesis (Punctuation s) || (is_sign AtSign (Punctuation s) || is_sign Exclaim (Punctuation s))

unfoldable pub opens_expression : List Token → Bool
opens_expression [] = false
opens_expression (t ∷ ts) = opens_kind t.kind

-- decides whether `update` is a keyword here, and not a name: what follows it can begin an expression
unfoldable pub update_at : List Token → Bool × List Token
update_at ts = option_map_or (λ rest. if opens_expression rest then (true, rest) else (false, ts)) (after_word (codes "update") ts) (false, ts)

unfoldable pub invariant_at : ℕ → Span → List Token → Read Clause
invariant_at n span ts = option_map (λ e. (invariant_clause span (update_at ts).0 e.0, e.1)) (condition_at n (update_at ts).1)

-- decides whether `post` is a keyword here, and not the name before the `=`
unfoldable pub post_at : List Token → Bool × List Token
post_at ts = option_map_or (λ rest. if is_some (after_sign Equal rest) then (false, ts) else (true, rest)) (after_word (codes "post") ts) (false, ts)

unfoldable pub let_at : ℕ → Span → List Token → Read Clause
let_at n span ts =
    option_and_then (λ name.
    option_and_then (λ rest.
    option_map (λ e. (let_clause span (post_at ts).0 name.0 e.0, e.1))
    (condition_at n rest)) (after_sign Equal name.1)) (identifier_at (post_at ts).1)

-- ---- pragmas

unfoldable pub value_of : Token → Option PragmaValue
value_of t =
    if is_word (codes "true") t.kind then Some (truth_value t.span true)
    else if is_word (codes "false") t.kind then Some (truth_value t.span false)
    else option_map (λ literal. number_value (record { literal = literal; span = t.span })) (fitting_number_of t.kind)

unfoldable pub value_at : List Token → Read PragmaValue
value_at [] = None
value_at (t ∷ ts) = option_map (λ value. (value, ts)) (value_of t)

-- the value of a pragma, if an `=` is here
unfoldable pub setting_at : List Token → Read (Option PragmaValue)
setting_at ts = option_map_or (λ rest. option_map (λ value. (Some value.0, value.1)) (value_at rest)) (after_sign Equal ts) (Some (None, ts))

unfoldable pub pragma_at : List Token → Read Pragma
pragma_at ts = option_and_then (λ name. option_map (λ value. (record { name = name.0; value = value.0 }, value.1)) (setting_at name.1)) (identifier_at ts)

unfoldable pub pragmas_at : Span → List Token → Read Clause
pragmas_at span ts = option_map (λ items. (pragma_clause span (record { items = items.0.0; last_comma = items.0.1 }), items.1)) (some_items_at (after_sign Semicolon) pragma_at ts)

-- ---- storage locations

unfoldable pub modifies_at : ℕ → Span → List Token → Read Clause
modifies_at n span ts =
    option_map (λ items. (modifies_clause span (record { items = items.0.0; last_comma = items.0.1 }), items.1)) (some_items_at (after_sign Semicolon) (spec_at n true 0) ts)

-- ---- schemas

-- type arguments, if a `<` is here
unfoldable pub given_at : (List Token → Read SourceTypeData) → List Token → Read (Option ArgumentsData)
given_at types ts = option_map_or (λ inside. option_map (λ a. (Some a.0, a.1)) (arguments_at types inside)) (after_sign Less ts) (Some (None, ts))

-- the bindings of the variables of a schema, after a brace
unfoldable pub bindings_behind : ℕ → List Token → Read BindingsData
bindings_behind n ts = option_map (λ items. (record { items = items.0.0; last_comma = items.0.1 }, items.1)) (comma_list_at (after_sign RightBrace) (spec_field_at (spec_at n true 0)) ts)

unfoldable pub bindings_at : ℕ → List Token → Read (Option BindingsData)
bindings_at n ts = option_map_or (λ inside. option_map (λ b. (Some b.0, b.1)) (bindings_behind n inside)) (after_sign LeftBrace ts) (Some (None, ts))

unfoldable pub include_at : ℕ → Span → List Token → Read Clause
include_at n span ts =
    option_and_then (λ path.
    option_and_then (λ arguments.
    option_and_then (λ bindings.
    option_map (λ rest. (include_clause (record { span = span; schema = path.0; arguments = arguments.0; bindings = bindings.0 }), rest))
    (after_sign Semicolon bindings.1)) (bindings_at n arguments.1)) (given_at (type_at n) path.1)) (path_at ts)

-- ---- variables of schemas

-- decides whether a variable is here: a name before a colon
unfoldable pub opens_variable : List Token → Bool
opens_variable ts = option_map_or (λ name. is_some (after_sign Colon name.1)) (identifier_at ts) false

unfoldable pub variable_at : ℕ → List Token → Read Clause
variable_at n ts =
    option_and_then (λ name.
    option_and_then (λ rest.
    option_and_then (λ t.
    option_map (λ behind. (variable_clause (record { name = name.0; annotation = t.0 }), behind))
    (after_sign Semicolon t.1)) (type_at n rest)) (after_sign Colon name.1)) (identifier_at ts)

-- ---- all clauses

unfoldable pub word_of : TokenKind → Option ClauseWord
word_of kind =
    if is_word (codes "pragma") kind then Some pragma_word
    else if is_word (codes "requires") kind then Some requires_word
    else if is_word (codes "ensures") kind then Some ensures_word
    else if is_word (codes "aborts_if") kind then Some aborts_if_word
    else if is_word (codes "modifies") kind then Some modifies_word
    else if is_word (codes "invariant") kind then Some invariant_word
    else if is_word (codes "let") kind then Some let_word
    else if is_word (codes "include") kind then Some include_word
    else None

-- the word of a clause and its span
unfoldable pub clause_word_at : List Token → Read (ClauseWord × Span)
clause_word_at [] = None
clause_word_at (t ∷ ts) = option_map (λ word. ((word, t.span), ts)) (word_of t.kind)

-- a clause after its word
abbrev pub clause_behind : ℕ → ClauseWord → Span → List Token → Read Clause
clause_behind n pragma_word span ts = pragmas_at span ts
clause_behind n requires_word span ts = requires_at n span ts
clause_behind n ensures_word span ts = ensures_at n span ts
clause_behind n aborts_if_word span ts = aborts_if_at n span ts
clause_behind n modifies_word span ts = modifies_at n span ts
clause_behind n invariant_word span ts = invariant_at n span ts
clause_behind n let_word span ts = let_at n span ts
clause_behind n include_word span ts = include_at n span ts

unfoldable pub worded_at : ℕ → List Token → Read Clause
worded_at n ts = option_and_then (λ w. clause_behind n w.0.0 w.0.1 w.1) (clause_word_at ts)

unfoldable pub clause_at : ℕ → List Token → Read Clause
clause_at n ts = if opens_variable ts then variable_at n ts else worded_at n ts
