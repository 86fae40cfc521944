-- The reader of patterns. `inner` reads the nested patterns, and `types` the types: both with a nesting of one less.
use Rattle.std.specs.Prelude.{ℕ, zero, suc, Bool, ◌||◌, if◌then◌else◌, List, Option, Some, None, is_some, option_and_then, codes}
use Rattle.std.specs.Option.{option_map, option_map_or}
use Rattle.base.specs.declared.span.Span.{Span}
use Rattle.tokens.specs.declared.token.Token.{Token}
use Rattle.tokens.specs.declared.token.Punctuation.TheVariants.{LeftParenthesis, RightParenthesis, LeftBrace, RightBrace, Less, Colon}
use Rattle.syntax_tree.specs.declared.lexeme.Identifier.{Identifier}
use Rattle.syntax_tree.specs.declared.path.Path.{Path}
use Rattle.syntax_tree.specs.declared.path.Path.TheVariants.{Name as name_path, Member as member_path, Full as full_path}
use Rattle.syntax_tree.specs.TypeTreeData.{SourceTypeData}
use Rattle.syntax_tree.specs.PatternData.{PatternData, BindPattern, IgnorePattern, UnpackPattern, TuplePattern, FieldPatternData, ShortFieldPattern, LongFieldPattern, patterns_of, field_patterns_of}
use Rattle.parser_base.specs.TokenReading.{Read, after_sign, sign_span_at, identifier_at, begins_small}
use Rattle.base.specs.Names.{same_name}
use Rattle.parser_base.specs.ListReading.{some_items_at, comma_list_at}
use Rattle.parser_base.specs.PathReading.{path_at}
use Rattle.parser_base.specs.TypeReading.{maybe_arguments_at, type_at}

-- patterns after an opening parenthesis
unfoldable pub tuple_pattern_at : (List Token → Read PatternData) → Span → List Token → Read PatternData
tuple_pattern_at inner span ts = option_map (λ items. (TuplePattern span (patterns_of items.0.0) items.0.1, items.1)) (some_items_at (after_sign RightParenthesis) inner ts)

-- the pattern that a path alone is
abbrev pub bound_by : Path → Option PatternData
bound_by (name_path name) =
    if same_name name.text (codes "_") then Some (IgnorePattern name.span)
    else (if begins_small name.text then Some (BindPattern name) else None)
bound_by (member_path owner name) = None
bound_by (full_path owner name) = None

-- a field bound to the local of its name
unfoldable pub short_field : Identifier → List Token → Read FieldPatternData
short_field name ts = if begins_small name.text then Some (ShortFieldPattern name, ts) else None

unfoldable pub field_pattern_at : (List Token → Read PatternData) → List Token → Read FieldPatternData
field_pattern_at inner ts =
    option_and_then (λ name. option_map_or (λ rest. option_map (λ p. (LongFieldPattern name.0 p.0, p.1)) (inner rest)) (after_sign Colon name.1) (short_field name.0 name.1)) (identifier_at ts)

-- the fields of a struct, between braces, after its path
unfoldable pub unpack_at : (List Token → Read SourceTypeData) → (List Token → Read PatternData) → Path → List Token → Read PatternData
unpack_at types inner path ts =
    option_and_then (λ arguments.
    option_and_then (λ inside.
    option_map (λ fields. (UnpackPattern path arguments.0 (field_patterns_of fields.0.0) fields.0.1, fields.1))
    (comma_list_at (after_sign RightBrace) (field_pattern_at inner) inside)) (after_sign LeftBrace arguments.1)) (maybe_arguments_at types ts)

-- decides whether type arguments or fields follow a path
unfoldable pub opens_fields : List Token → Bool
opens_fields ts = is_some (after_sign Less ts) || is_some (after_sign LeftBrace ts)

unfoldable pub pattern_behind : (List Token → Read SourceTypeData) → (List Token → Read PatternData) → Path → List Token → Read PatternData
pattern_behind types inner path ts = if opens_fields ts then unpack_at types inner path ts else option_map (λ p. (p, ts)) (bound_by path)

unfoldable pub pattern_form : (List Token → Read SourceTypeData) → (List Token → Read PatternData) → List Token → Read PatternData
pattern_form types inner ts =
    option_map_or (λ p. tuple_pattern_at inner p.0 p.1) (sign_span_at LeftParenthesis ts)
    (option_and_then (λ path. pattern_behind types inner path.0 path.1) (path_at ts))

-- a pattern nested at most this deep
unfoldable pub pattern_at : ℕ → List Token → Read PatternData
pattern_at zero ts = None
pattern_at (suc n) ts = pattern_form (type_at n) (pattern_at n) ts
