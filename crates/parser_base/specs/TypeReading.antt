-- The reader of types. `inner` reads the nested types, with a nesting of one less.
use Rattle.std.specs.Prelude.{ℕ, zero, suc, if◌then◌else◌, List, Some, None, option_and_then, codes}
use Rattle.std.specs.Option.{option_map, option_map_or}
use Rattle.base.specs.declared.span.Span.{Span}
use Rattle.tokens.specs.declared.token.Token.{Token}
use Rattle.tokens.specs.declared.token.Punctuation.TheVariants.{Ampersand, LeftParenthesis, RightParenthesis, Less, Greater}
use Rattle.syntax_tree.specs.TypeTreeData.{SourceTypeData, SharedSourceType, MutableSourceType, NamedSourceType, TupleSourceType, ArgumentsData, Arguments, MaybeArgumentsData, NoArguments, SomeArguments, source_types_of}
use Rattle.parser_base.specs.TokenReading.{Read, after_sign, sign_span_at, after_word}
use Rattle.parser_base.specs.ListReading.{some_items_at, comma_list_at}
use Rattle.parser_base.specs.PathReading.{path_at, is_single}

-- type arguments after their `<`
unfoldable pub arguments_at : (List Token → Read SourceTypeData) → List Token → Read ArgumentsData
arguments_at inner ts = option_map (λ items. (Arguments (source_types_of items.0.0) items.0.1, items.1)) (some_items_at (after_sign Greater) inner ts)

unfoldable pub maybe_arguments_at : (List Token → Read SourceTypeData) → List Token → Read MaybeArgumentsData
maybe_arguments_at inner ts = option_map_or (λ inside. option_map (λ a. (SomeArguments a.0, a.1)) (arguments_at inner inside)) (after_sign Less ts) (Some (NoArguments, ts))

-- a type that begins with a path
unfoldable pub named_at : (List Token → Read SourceTypeData) → List Token → Read SourceTypeData
named_at inner ts =
    option_and_then (λ path. if is_single (codes "u256") path.0 then None else option_map (λ a. (NamedSourceType path.0 a.0, a.1)) (maybe_arguments_at inner path.1)) (path_at ts)

-- a reference after its `&`
unfoldable pub reference_at : (List Token → Read SourceTypeData) → Span → List Token → Read SourceTypeData
reference_at inner span ts =
    option_map_or (λ rest. option_map (λ t. (MutableSourceType span t.0, t.1)) (inner rest)) (after_word (codes "mut") ts)
    (option_map (λ t. (SharedSourceType span t.0, t.1)) (inner ts))

-- types after an opening parenthesis
unfoldable pub tuple_at : (List Token → Read SourceTypeData) → Span → List Token → Read SourceTypeData
tuple_at inner span ts = option_map (λ items. (TupleSourceType span (source_types_of items.0.0) items.0.1, items.1)) (comma_list_at (after_sign RightParenthesis) inner ts)

unfoldable pub type_form : (List Token → Read SourceTypeData) → List Token → Read SourceTypeData
type_form inner ts =
    option_map_or (λ p. reference_at inner p.0 p.1) (sign_span_at Ampersand ts)
    (option_map_or (λ p. tuple_at inner p.0 p.1) (sign_span_at LeftParenthesis ts) (named_at inner ts))

-- a type nested at most this deep
unfoldable pub type_at : ℕ → List Token → Read SourceTypeData
type_at zero ts = None
type_at (suc n) ts = type_form (type_at n) ts
