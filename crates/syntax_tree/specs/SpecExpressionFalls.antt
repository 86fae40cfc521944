-- Each part of a spec expression is smaller than the whole.
use Rattle.std.specs.Prelude.{◌+◌, ◌≤◌, Bool, max, List, [], ◌∷◌, Option, Some, None}
use Rattle.std.proofs.Common.{arith}
use denote.Param.Weighed.{most}
use Rattle.syntax_tree.specs.declared.lexeme.Identifier.{Identifier}
use Rattle.syntax_tree.specs.SpecExpressionData.{SpecExpressionData, BindData, TriggerData, TriggerOf, SpecFieldData, spec_expression_size, bind_size, trigger_size, spec_field_size, spec_expressions_size, binds_size, triggers_size, spec_fields_size, spec_expressions_of, binds_of, triggers_of, spec_fields_of}
use Rattle.syntax_tree.specs.SpecExpressionView.{spec_of_node, bind_of, spec_field_of}
use Rattle.syntax_tree.specs.declared.spec_expression.SpecNode.{SpecNode}
use Rattle.syntax_tree.specs.declared.spec_expression.SpecNode.TheVariants.{Binary, Quantified, If, Not, Field, Index, Literal, Path, Call, Pack, Parenthesized}
use Rattle.syntax_tree.specs.declared.spec_expression.Domain.{Domain}
use Rattle.syntax_tree.specs.declared.spec_expression.Domain.TheVariants.{Of as type_domain, In as range_domain}
use Rattle.syntax_tree.specs.declared.spec_expression.Bind.TheDeep.{deep-SpecNode, deep-Bind, deep-SpecField}

-- no expression is larger than all of them together
pub spec_expressions_fall : (xs : List SpecExpressionData) → max (most (λ x. spec_expression_size x + 1) xs) 0 ≤ spec_expressions_size (spec_expressions_of xs)
spec_expressions_fall [] = omega arith
spec_expressions_fall (x ∷ xs) = omega (arith, spec_expressions_fall xs)

pub binds_fall : (xs : List BindData) → max (most (λ x. bind_size x + 1) xs) 0 ≤ binds_size (binds_of xs)
binds_fall [] = omega arith
binds_fall (x ∷ xs) = omega (arith, binds_fall xs)

pub triggers_fall : (xs : List TriggerData) → max (most (λ x. trigger_size x + 1) xs) 0 ≤ triggers_size (triggers_of xs)
triggers_fall [] = omega arith
triggers_fall (x ∷ xs) = omega (arith, triggers_fall xs)

pub spec_fields_fall : (xs : List SpecFieldData) → max (most (λ x. spec_field_size x + 1) xs) 0 ≤ spec_fields_size (spec_fields_of xs)
spec_fields_fall [] = omega arith
spec_fields_fall (x ∷ xs) = omega (arith, spec_fields_fall xs)

pub spec_falls : (n : SpecNode) → max (deep-SpecNode n) 0 ≤ spec_expression_size (spec_of_node n)
spec_falls (Binary left operator span right) = omega arith
spec_falls (Quantified quantifier span binds triggers body) = omega (arith, binds_fall binds.items, triggers_fall triggers.items)
spec_falls (If span condition then_branch else_branch) = omega arith
spec_falls (Not span operand) = omega arith
spec_falls (Field base field) = omega arith
spec_falls (Index base index) = omega arith
spec_falls (Literal literal) = omega arith
spec_falls (Path path) = omega arith
spec_falls (Call function arguments values last) = omega (arith, spec_expressions_fall values.items)
spec_falls (Pack path arguments fields last) = omega (arith, spec_fields_fall fields.items)
spec_falls (Parenthesized span inner) = omega arith

pub bind_falls : (name : Identifier) (domain : Domain) → deep-Bind (record { name = name; domain = domain }) ≤ bind_size (bind_of name domain)
bind_falls name (type_domain t) = omega arith
bind_falls name (range_domain range) = omega arith

pub trigger_falls : (xs : List SpecExpressionData) (last : Bool) → max (most (λ x. spec_expression_size x + 1) xs) 0 ≤ trigger_size (TriggerOf (spec_expressions_of xs) last)
trigger_falls xs last = omega (arith, spec_expressions_fall xs)

pub spec_field_falls : (name : Identifier) (value : Option SpecExpressionData) → deep-SpecField (record { name = name; value = value }) ≤ spec_field_size (spec_field_of name value)
spec_field_falls name None = omega arith
spec_field_falls name (Some value) = omega arith
