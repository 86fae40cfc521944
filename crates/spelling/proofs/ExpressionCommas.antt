-- Comma lists, as a loop from the first item to the last spells them.
use Rattle.std.proofs.Common.{◌≤◌, ℕ, zero, suc, length, take, arith, ◌≡◌, List, [], ◌∷◌, ◌++◌, refl, ap, Bool, ◌∙◌}
use Rattle.std.specs.List.{flat_map}
use Rattle.syntax_tree.specs.Lexemes.{after_commas, comma_list, last_comma}
use Rattle.syntax_tree.specs.ExpressionData.{ExpressionData, expressions_of, FieldValueData, field_values_of, ItemData, items_of}
use Rattle.syntax_tree.specs.ExpressionSpelling.{items_spelling, item_spelling, expression_spelling, expression_spellings, expression_after_comma, field_value_spelling, field_value_spellings, field_value_after_comma}

pub expressions_after_commas : (xs : List ExpressionData) → after_commas (expression_spellings (expressions_of xs)) ≡ flat_map expression_after_comma xs
expressions_after_commas [] = refl
expressions_after_commas (x ∷ xs) = ap (λ more. expression_after_comma x ++ more) (expressions_after_commas xs)

pub expressions_comma_list : (all : List ExpressionData) (x : ExpressionData) (xs : List ExpressionData) (last : Bool) → all ≡ x ∷ xs → comma_list (expression_spellings (expressions_of all)) last ≡ expression_spelling x ++ flat_map expression_after_comma xs ++ last_comma last
expressions_comma_list all x xs last e = ap (λ ys. comma_list (expression_spellings (expressions_of ys)) last) e ∙ ap (λ more. expression_spelling x ++ more ++ last_comma last) (expressions_after_commas xs)

pub field_values_after_commas : (xs : List FieldValueData) → after_commas (field_value_spellings (field_values_of xs)) ≡ flat_map field_value_after_comma xs
field_values_after_commas [] = refl
field_values_after_commas (x ∷ xs) = ap (λ more. field_value_after_comma x ++ more) (field_values_after_commas xs)

pub field_values_comma_list : (all : List FieldValueData) (x : FieldValueData) (xs : List FieldValueData) (last : Bool) → all ≡ x ∷ xs → comma_list (field_value_spellings (field_values_of all)) last ≡ field_value_spelling x ++ flat_map field_value_after_comma xs ++ last_comma last
field_values_comma_list all x xs last e = ap (λ ys. comma_list (field_value_spellings (field_values_of ys)) last) e ∙ ap (λ more. field_value_spelling x ++ more ++ last_comma last) (field_values_after_commas xs)

-- ---- items, one after another

pub items_taken : (xs : List ItemData) (i : ℕ) → length xs ≤ i → flat_map item_spelling (take i xs) ≡ items_spelling (items_of xs)
items_taken [] zero h = refl
items_taken [] (suc i) h = refl
items_taken (x ∷ xs) zero h = absurd (omega (arith, h))
items_taken (x ∷ xs) (suc i) h = ap (λ more. item_spelling x ++ more) (items_taken xs i (omega (arith, h)))
