-- One level of a spec expression, with its children as pure data.
use Rattle.std.specs.Prelude.{Option, Some, None}
use Rattle.syntax_tree.specs.declared.lexeme.Identifier.{Identifier}
use Rattle.syntax_tree.specs.TypeTreeData.{maybe_arguments_of}
use Rattle.syntax_tree.specs.SpecExpressionData.{SpecExpressionData, SpecBinary, SpecQuantified, SpecIf, SpecNot, SpecField, SpecIndex, SpecLiteral, SpecPath, SpecCall, SpecPack, SpecParenthesized, BindData, TypedBind, RangeBind, SpecFieldData, ShortSpecField, LongSpecField, spec_expressions_of, binds_of, triggers_of, spec_fields_of}
use Rattle.syntax_tree.specs.declared.spec_expression.SpecNode.{SpecNode}
use Rattle.syntax_tree.specs.declared.spec_expression.SpecNode.TheVariants.{Binary, Quantified, If, Not, Field, Index, Literal, Path, Call, Pack, Parenthesized}
use Rattle.syntax_tree.specs.declared.spec_expression.Domain.{Domain}
use Rattle.syntax_tree.specs.declared.spec_expression.Domain.TheVariants.{Of as type_domain, In as range_domain}

abbrev pub bind_of : Identifier → Domain → BindData
bind_of name (type_domain t) = TypedBind name t
bind_of name (range_domain range) = RangeBind name range

abbrev pub spec_field_of : Identifier → Option SpecExpressionData → SpecFieldData
spec_field_of name None = ShortSpecField name
spec_field_of name (Some value) = LongSpecField name value

abbrev pub spec_of_node : SpecNode → SpecExpressionData
spec_of_node (Binary left operator span right) = SpecBinary left.value operator span right.value
spec_of_node (Quantified quantifier span binds triggers body) = SpecQuantified quantifier span (binds_of binds.items) (triggers_of triggers.items) body.value
spec_of_node (If span condition then_branch else_branch) = SpecIf span condition.value then_branch.value else_branch.value
spec_of_node (Not span operand) = SpecNot span operand.value
spec_of_node (Field base field) = SpecField base.value field
spec_of_node (Index base index) = SpecIndex base.value index.value
spec_of_node (Literal literal) = SpecLiteral literal
spec_of_node (Path path) = SpecPath path
spec_of_node (Call function arguments values last) = SpecCall function (maybe_arguments_of arguments) (spec_expressions_of values.items) last
spec_of_node (Pack path arguments fields last) = SpecPack path (maybe_arguments_of arguments) (spec_fields_of fields.items) last
spec_of_node (Parenthesized span inner) = SpecParenthesized span inner.value
