-- The reader of the tokens that begin terms, control forms and blocks.
use Rattle.std.specs.Prelude.{ℕ, Bool, true, false, ◌&&◌, ◌||◌, if◌then◌else◌, List, [], ◌∷◌, Option, Some, None, is_some, option_and_then, codes}
use Rattle.std.specs.Option.{option_map, option_map_or}
use Rattle.base.specs.declared.span.Span.{Span}
use Rattle.tokens.specs.declared.token.Token.{Token}
use Rattle.tokens.specs.declared.token.TokenKind.{TokenKind}
use Rattle.tokens.specs.declared.token.TokenKind.TheVariants.{Word, Number, ByteString, Punctuation}
use Rattle.tokens.specs.declared.token.NumberLiteral.{NumberLiteral}
use Rattle.tokens.specs.declared.token.NumberSuffix.{NumberSuffix}
use Rattle.tokens.specs.declared.token.NumberSuffix.TheVariants.{U256}
use Rattle.tokens.specs.declared.token.Punctuation.{Punctuation as Sign}
use Rattle.tokens.specs.declared.token.Punctuation.TheVariants.{LeftParenthesis, RightParenthesis, LeftBrace, RightBrace, LeftBracket, Less, Exclaim, Star, Ampersand, AtSign, Colon, ColonColon, Comma as comma_sign, Semicolon}
use Rattle.syntax_tree.specs.declared.literal.Literal.{Literal}
use Rattle.syntax_tree.specs.declared.literal.Literal.TheVariants.{Number as number_literal, Truth as truth_literal}
use Rattle.syntax_tree.specs.declared.operator.UnaryOperator.{UnaryOperator}
use Rattle.syntax_tree.specs.declared.operator.UnaryOperator.TheVariants.{Not, Dereference, Borrow, BorrowMutable}
use Rattle.syntax_tree.specs.declared.operator.UseKind.{UseKind}
use Rattle.syntax_tree.specs.declared.operator.UseKind.TheVariants.{Move, Copy}
use Rattle.parser_base.specs.TokenReading.{Read, is_keyword, is_sign, after_sign, sign_span_at, after_word, word_span_at, begins_capital}
use Rattle.base.specs.Names.{same_name}
use Rattle.parser_base.specs.KeptReading.{loop_spec_at}
use Rattle.syntax_tree.specs.declared.path.Path.{Path}
use Rattle.syntax_tree.specs.declared.spec_tokens.KeptSpec.{KeptSpec}
use Rattle.syntax_tree.specs.TypeTreeData.{SourceTypeData, MaybeArgumentsData, NoArguments, SomeArguments}
use Rattle.syntax_tree.specs.ProperTypes.{last_name}
use Rattle.parser_base.specs.PathReading.{is_single}
use Rattle.parser_base.specs.TypeReading.{arguments_at}
use Rattle.parser_base.specs.declared.leaf.PathForm.{PathForm}
use Rattle.parser_base.specs.declared.leaf.PathForm.TheVariants.{Call, Pack, Alone}
use Rattle.parser_base.specs.declared.leaf.BehindFirst.{BehindFirst}
use Rattle.parser_base.specs.declared.leaf.BehindFirst.TheVariants.{Close, As, Comma}
use Rattle.parser_base.specs.declared.leaf.Control.{Control}
use Rattle.parser_base.specs.declared.leaf.Control.TheVariants.{If, While, Loop, Return, Abort, Break, Continue}

-- ---- literals

-- a number of a type in the profile
abbrev pub fitting : NumberLiteral → NumberSuffix → Option NumberLiteral
fitting literal U256 = None
fitting literal _ = Some literal

abbrev pub fitting_number_of : TokenKind → Option NumberLiteral
fitting_number_of (Number literal) = fitting literal literal.suffix
fitting_number_of (Word name) = None
fitting_number_of (ByteString text) = None
fitting_number_of (Punctuation sign) = None

-- a number that is not the address of a path
unfoldable pub number_at : List Token → Read Literal
number_at [] = None
number_at (t ∷ ts) =
    if is_some (after_sign ColonColon ts) then None
    else option_map (λ literal. (number_literal (record { literal = literal; span = t.span }), ts)) (fitting_number_of t.kind)

unfoldable pub truth_at : List Token → Read Literal
truth_at ts =
    option_map_or (λ p. Some (truth_literal p.0 true, p.1)) (word_span_at (codes "true") ts)
    (option_map (λ p. (truth_literal p.0 false, p.1)) (word_span_at (codes "false") ts))

-- a number or a boolean
unfoldable pub plain_literal_at : List Token → Read Literal
plain_literal_at ts = option_map_or (λ l. Some (l.0, l.1)) (number_at ts) (truth_at ts)

-- ---- words with a special meaning before certain tokens

-- `vector` before type arguments or a bracket
unfoldable pub vector_span_at : List Token → Read Span
vector_span_at ts = option_and_then (λ p. if is_some (after_sign Less p.1) || is_some (after_sign LeftBracket p.1) then Some (p.0, p.1) else None) (word_span_at (codes "vector") ts)

-- `assert` and its `!`
unfoldable pub assert_span_at : List Token → Read Span
assert_span_at ts = option_and_then (λ p. option_map (λ rest. (p.0, rest)) (after_sign Exclaim p.1)) (word_span_at (codes "assert") ts)

-- the tokens after a sign that is glued to the token before it
unfoldable pub after_glued : Sign → List Token → Option (List Token)
after_glued sign [] = None
after_glued sign (t ∷ ts) = if is_sign sign t.kind && t.glued then Some ts else None

-- ---- unary operators

unfoldable pub borrow_behind : Span → List Token → Read (UnaryOperator × Span)
borrow_behind span ts = option_map_or (λ rest. Some ((BorrowMutable, span), rest)) (after_word (codes "mut") ts) (Some ((Borrow, span), ts))

unfoldable pub prefix_at : List Token → Read (UnaryOperator × Span)
prefix_at ts =
    option_map_or (λ p. Some ((Not, p.0), p.1)) (sign_span_at Exclaim ts)
    (option_map_or (λ p. Some ((Dereference, p.0), p.1)) (sign_span_at Star ts)
    (option_and_then (λ p. borrow_behind p.0 p.1) (sign_span_at Ampersand ts)))

-- `move` or `copy`
unfoldable pub use_at : List Token → Read (UseKind × Span)
use_at ts =
    option_map_or (λ p. Some ((Move, p.0), p.1)) (word_span_at (codes "move") ts)
    (option_map (λ p. ((Copy, p.0), p.1)) (word_span_at (codes "copy") ts))

-- ---- control forms

abbrev pub control_of_word : List ℕ → Option Control
control_of_word word =
    if same_name word (codes "if") then Some If
    else (if same_name word (codes "while") then Some While
    else (if same_name word (codes "loop") then Some Loop
    else (if same_name word (codes "return") then Some Return
    else (if same_name word (codes "abort") then Some Abort
    else (if same_name word (codes "break") then Some Break
    else (if same_name word (codes "continue") then Some Continue else None))))))

abbrev pub control_of : TokenKind → Option Control
control_of (Word word) = control_of_word word
control_of (Number number) = None
control_of (ByteString text) = None
control_of (Punctuation sign) = None

unfoldable pub control_at : List Token → Read (Control × Span)
control_at [] = None
control_at (t ∷ ts) = option_map (λ control. ((control, t.span), ts)) (control_of t.kind)

-- ---- whether an expression can begin here

abbrev pub begins_operand : Sign → Bool
begins_operand LeftParenthesis = true
begins_operand LeftBrace = true
begins_operand Exclaim = true
begins_operand Star = true
begins_operand Ampersand = true
begins_operand AtSign = true
begins_operand _ = false

-- the keywords that begin an expression
abbrev pub begins_by_keyword : List ℕ → Bool
begins_by_keyword word =
    same_name word (codes "true") || (same_name word (codes "false") || (same_name word (codes "move") || (same_name word (codes "copy") || is_some (control_of_word word))))

abbrev pub begins_expression : TokenKind → Bool
begins_expression (Word word) = begins_by_keyword word || (if is_keyword word then false else true)
begins_expression (Number number) = true
begins_expression (ByteString text) = false
begins_expression (Punctuation sign) = begins_operand sign

unfoldable pub may_begin : List Token → Bool
may_begin [] = false
may_begin (t ∷ ts) = begins_expression t.kind

-- `{` with its span, and the tokens after it, the first of which is `spec`: the block of a loop's spec
unfoldable pub spec_opening_at : List Token → Read Span
spec_opening_at ts = option_and_then (λ p. if is_some (after_word (codes "spec") p.1) then Some p else None) (sign_span_at LeftBrace ts)

-- ---- what follows the path of a term

-- a call, a pack, or the path only
abbrev pub call_or_path : Bool → Path → List Token → Read PathForm
call_or_path has_arguments path ts =
    option_map_or (λ rest. if has_arguments && is_single (codes "vector") path then None else Some (Call, rest)) (after_sign LeftParenthesis ts)
    (option_map_or (λ rest. Some (Pack, rest)) (if begins_capital (last_name path) then after_sign LeftBrace ts else None) (if has_arguments then None else Some (Alone, ts)))

unfoldable pub path_form_at : Bool → Path → List Token → Read PathForm
path_form_at has_arguments path ts = call_or_path has_arguments path ts

-- type arguments with a glued `<`
unfoldable pub glued_arguments_at : (List Token → Read SourceTypeData) → List Token → Read MaybeArgumentsData
glued_arguments_at types ts = option_map_or (λ inside. option_map (λ a. (SomeArguments a.0, a.1)) (arguments_at types inside)) (after_glued Less ts) (Some (NoArguments, ts))

abbrev pub has_arguments : MaybeArgumentsData → Bool
has_arguments NoArguments = false
has_arguments (SomeArguments arguments) = true

-- what follows the first expression in parentheses
unfoldable pub behind_first_at : List Token → Read BehindFirst
behind_first_at ts =
    option_map_or (λ rest. Some (Close, rest)) (after_sign RightParenthesis ts)
    (option_map_or (λ rest. Some (As, rest)) (after_word (codes "as") ts)
    (option_map (λ rest. (Comma, rest)) (after_sign comma_sign ts)))

-- the spec block of a loop, with its semicolon
unfoldable pub spec_statement_at : List Token → Read KeptSpec
spec_statement_at ts = option_and_then (λ spec. option_map (λ rest. (spec.0, rest)) (after_sign Semicolon spec.1)) (loop_spec_at ts)

unfoldable pub annotation_at : (List Token → Read SourceTypeData) → List Token → Read (Option SourceTypeData)
annotation_at types ts = option_map_or (λ rest. option_map (λ t. (Some t.0, t.1)) (types rest)) (after_sign Colon ts) (Some (None, ts))

-- the type of a cast after `as`, with the closing parenthesis
unfoldable pub cast_target_at : (List Token → Read SourceTypeData) → List Token → Read SourceTypeData
cast_target_at types ts = option_and_then (λ target. option_map (λ rest. (target.0, rest)) (after_sign RightParenthesis target.1)) (types ts)
