-- Comma lists, as a loop from the first item to the last spells them.
use Rattle.std.proofs.Common.{◌≡◌, List, [], ◌∷◌, ◌++◌, refl, ap, sym, Bool, ◌∙◌, append_assoc}
use Rattle.std.specs.List.{flat_map}
use Rattle.syntax_tree.specs.Lexemes.{after_commas, comma_list, last_comma}
use Rattle.syntax_tree.specs.TypeTreeData.{SourceTypeData, source_types_of}
use Rattle.syntax_tree.specs.PatternData.{PatternData, patterns_of, FieldPatternData, field_patterns_of}
use Rattle.syntax_tree.specs.TypeSpelling.{type_spelling, type_spellings, type_after_comma}
use Rattle.syntax_tree.specs.PatternSpelling.{pattern_spelling, pattern_spellings, pattern_after_comma, field_pattern_spelling, field_pattern_spellings, field_pattern_after_comma}

pub types_after_commas : (xs : List SourceTypeData) → after_commas (type_spellings (source_types_of xs)) ≡ flat_map type_after_comma xs
types_after_commas [] = refl
types_after_commas (x ∷ xs) = ap (λ more. type_after_comma x ++ more) (types_after_commas xs)

pub types_comma_list : (all : List SourceTypeData) (x : SourceTypeData) (xs : List SourceTypeData) (last : Bool) → all ≡ x ∷ xs → comma_list (type_spellings (source_types_of all)) last ≡ type_spelling x ++ flat_map type_after_comma xs ++ last_comma last
types_comma_list all x xs last e = ap (λ ys. comma_list (type_spellings (source_types_of ys)) last) e ∙ ap (λ more. type_spelling x ++ more ++ last_comma last) (types_after_commas xs)

pub patterns_after_commas : (xs : List PatternData) → after_commas (pattern_spellings (patterns_of xs)) ≡ flat_map pattern_after_comma xs
patterns_after_commas [] = refl
patterns_after_commas (x ∷ xs) = ap (λ more. pattern_after_comma x ++ more) (patterns_after_commas xs)

pub patterns_comma_list : (all : List PatternData) (x : PatternData) (xs : List PatternData) (last : Bool) → all ≡ x ∷ xs → comma_list (pattern_spellings (patterns_of all)) last ≡ pattern_spelling x ++ flat_map pattern_after_comma xs ++ last_comma last
patterns_comma_list all x xs last e = ap (λ ys. comma_list (pattern_spellings (patterns_of ys)) last) e ∙ ap (λ more. pattern_spelling x ++ more ++ last_comma last) (patterns_after_commas xs)

pub field_patterns_after_commas : (xs : List FieldPatternData) → after_commas (field_pattern_spellings (field_patterns_of xs)) ≡ flat_map field_pattern_after_comma xs
field_patterns_after_commas [] = refl
field_patterns_after_commas (x ∷ xs) = ap (λ more. field_pattern_after_comma x ++ more) (field_patterns_after_commas xs)

pub field_patterns_comma_list : (all : List FieldPatternData) (x : FieldPatternData) (xs : List FieldPatternData) (last : Bool) → all ≡ x ∷ xs → comma_list (field_pattern_spellings (field_patterns_of all)) last ≡ field_pattern_spelling x ++ flat_map field_pattern_after_comma xs ++ last_comma last
field_patterns_comma_list all x xs last e = ap (λ ys. comma_list (field_pattern_spellings (field_patterns_of ys)) last) e ∙ ap (λ more. field_pattern_spelling x ++ more ++ last_comma last) (field_patterns_after_commas xs)
