-- Each item of a list is smaller than the list.
use Rattle.std.proofs.Common.{ℕ, zero, suc, ◌<◌, List, [], ◌∷◌, length, get_or, arith}
use Rattle.syntax_tree.specs.SpecExpressionData.{SpecExpressionData, spec_expression_size, spec_expressions_size, spec_expressions_of, BindData, bind_size, binds_size, binds_of, TriggerData, trigger_size, triggers_size, triggers_of, SpecFieldData, spec_field_size, spec_fields_size, spec_fields_of}

pub spec_expression_smaller : (xs : List SpecExpressionData) (i : ℕ) (d : SpecExpressionData) → i < length xs → spec_expression_size (get_or xs i d) < spec_expressions_size (spec_expressions_of xs)
spec_expression_smaller [] i d h = absurd (omega arith)
spec_expression_smaller (x ∷ xs) zero d h = omega arith
spec_expression_smaller (x ∷ xs) (suc i) d h = omega (arith, spec_expression_smaller xs i d (omega arith))

pub bind_smaller : (xs : List BindData) (i : ℕ) (d : BindData) → i < length xs → bind_size (get_or xs i d) < binds_size (binds_of xs)
bind_smaller [] i d h = absurd (omega arith)
bind_smaller (x ∷ xs) zero d h = omega arith
bind_smaller (x ∷ xs) (suc i) d h = omega (arith, bind_smaller xs i d (omega arith))

pub trigger_smaller : (xs : List TriggerData) (i : ℕ) (d : TriggerData) → i < length xs → trigger_size (get_or xs i d) < triggers_size (triggers_of xs)
trigger_smaller [] i d h = absurd (omega arith)
trigger_smaller (x ∷ xs) zero d h = omega arith
trigger_smaller (x ∷ xs) (suc i) d h = omega (arith, trigger_smaller xs i d (omega arith))

pub spec_field_smaller : (xs : List SpecFieldData) (i : ℕ) (d : SpecFieldData) → i < length xs → spec_field_size (get_or xs i d) < spec_fields_size (spec_fields_of xs)
spec_field_smaller [] i d h = absurd (omega arith)
spec_field_smaller (x ∷ xs) zero d h = omega arith
spec_field_smaller (x ∷ xs) (suc i) d h = omega (arith, spec_field_smaller xs i d (omega arith))
