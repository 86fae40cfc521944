-- Each item of a list is smaller than the list.
use Rattle.std.proofs.Common.{ℕ, zero, suc, ◌<◌, List, [], ◌∷◌, length, get_or, arith}
use Rattle.syntax_tree.specs.ExpressionData.{ItemData, item_size, items_size, items_of, ExpressionData, expression_size, expressions_size, expressions_of, FieldValueData, field_value_size, field_values_size, field_values_of}

pub expression_smaller : (xs : List ExpressionData) (i : ℕ) (d : ExpressionData) → i < length xs → expression_size (get_or xs i d) < expressions_size (expressions_of xs)
expression_smaller [] i d h = absurd (omega arith)
expression_smaller (x ∷ xs) zero d h = omega arith
expression_smaller (x ∷ xs) (suc i) d h = omega (arith, expression_smaller xs i d (omega arith))

pub field_value_smaller : (xs : List FieldValueData) (i : ℕ) (d : FieldValueData) → i < length xs → field_value_size (get_or xs i d) < field_values_size (field_values_of xs)
field_value_smaller [] i d h = absurd (omega arith)
field_value_smaller (x ∷ xs) zero d h = omega arith
field_value_smaller (x ∷ xs) (suc i) d h = omega (arith, field_value_smaller xs i d (omega arith))

pub item_smaller : (xs : List ItemData) (i : ℕ) (d : ItemData) → i < length xs → item_size (get_or xs i d) < items_size (items_of xs)
item_smaller [] i d h = absurd (omega arith)
item_smaller (x ∷ xs) zero d h = omega arith
item_smaller (x ∷ xs) (suc i) d h = omega (arith, item_smaller xs i d (omega arith))
