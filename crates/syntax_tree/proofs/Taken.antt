-- The blocks and the names of a list's first items, and of all its items.
use Rattle.std.proofs.Common.{◌≡◌, ℕ, zero, suc, ◌≤◌, List, [], ◌∷◌, ◌++◌, length, take, refl, ap, arith}
use Rattle.std.specs.List.{flat_map}
use Rattle.syntax_tree.specs.ExpressionData.{ExpressionData, expressions_of, ItemData, items_of, FieldValueData, field_values_of}
use Rattle.syntax_tree.specs.PatternData.{PatternData, patterns_of, FieldPatternData, field_patterns_of}
use Rattle.syntax_tree.specs.Locals.{names_of, names_of_field, names_of_patterns, names_of_fields, names_of_item, names_of_items}
use Rattle.syntax_tree.specs.Blocks.{blocks_of, blocks_of_item, blocks_of_items, blocks_of_field, blocks_of_expressions, blocks_of_fields}

pub expressions_taken : (xs : List ExpressionData) (i : ℕ) → length xs ≤ i → flat_map blocks_of (take i xs) ≡ blocks_of_expressions (expressions_of xs)
expressions_taken [] zero h = refl
expressions_taken [] (suc i) h = refl
expressions_taken (x ∷ xs) zero h = absurd (omega (arith, h))
expressions_taken (x ∷ xs) (suc i) h = ap (λ more. blocks_of x ++ more) (expressions_taken xs i (omega (arith, h)))

pub items_taken : (xs : List ItemData) (i : ℕ) → length xs ≤ i → flat_map blocks_of_item (take i xs) ≡ blocks_of_items (items_of xs)
items_taken [] zero h = refl
items_taken [] (suc i) h = refl
items_taken (x ∷ xs) zero h = absurd (omega (arith, h))
items_taken (x ∷ xs) (suc i) h = ap (λ more. blocks_of_item x ++ more) (items_taken xs i (omega (arith, h)))

pub fields_taken : (xs : List FieldValueData) (i : ℕ) → length xs ≤ i → flat_map blocks_of_field (take i xs) ≡ blocks_of_fields (field_values_of xs)
fields_taken [] zero h = refl
fields_taken [] (suc i) h = refl
fields_taken (x ∷ xs) zero h = absurd (omega (arith, h))
fields_taken (x ∷ xs) (suc i) h = ap (λ more. blocks_of_field x ++ more) (fields_taken xs i (omega (arith, h)))

pub patterns_taken : (xs : List PatternData) (i : ℕ) → length xs ≤ i → flat_map names_of (take i xs) ≡ names_of_patterns (patterns_of xs)
patterns_taken [] zero h = refl
patterns_taken [] (suc i) h = refl
patterns_taken (x ∷ xs) zero h = absurd (omega (arith, h))
patterns_taken (x ∷ xs) (suc i) h = ap (λ more. names_of x ++ more) (patterns_taken xs i (omega (arith, h)))

pub field_patterns_taken : (xs : List FieldPatternData) (i : ℕ) → length xs ≤ i → flat_map names_of_field (take i xs) ≡ names_of_fields (field_patterns_of xs)
field_patterns_taken [] zero h = refl
field_patterns_taken [] (suc i) h = refl
field_patterns_taken (x ∷ xs) zero h = absurd (omega (arith, h))
field_patterns_taken (x ∷ xs) (suc i) h = ap (λ more. names_of_field x ++ more) (field_patterns_taken xs i (omega (arith, h)))

pub lets_taken : (xs : List ItemData) (i : ℕ) → length xs ≤ i → flat_map names_of_item (take i xs) ≡ names_of_items (items_of xs)
lets_taken [] zero h = refl
lets_taken [] (suc i) h = refl
lets_taken (x ∷ xs) zero h = absurd (omega (arith, h))
lets_taken (x ∷ xs) (suc i) h = ap (λ more. names_of_item x ++ more) (lets_taken xs i (omega (arith, h)))
