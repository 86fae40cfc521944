-- Lists of expressions, of fields and of items.
use Rattle.std.proofs.Common.{ℕ, ◌≡◌, ◌≤◌, List, [], ◌∷◌, length, map, take, Option, None, Some, refl, sym, ap, ◌∙◌}
use Rattle.std.proofs.lemmas.List.{take_all}
use Rattle.base.specs.declared.span.Span.{Span}
use Rattle.syntax_tree.specs.declared.lexeme.Identifier.{Identifier}
use Rattle.syntax_tree.specs.ExpressionData.{ExpressionData, FieldValueData, ItemData, ExpressionsData, NoExpressions, MoreExpressions, expressions_of, field_values_of, items_of}
use Rattle.syntax_tree.specs.ExpressionView.{field_value_of}
use Rattle.scopes.specs.declared.scope.InScope.{InScope}
use Rattle.scopes.specs.TypeMeanings.{TypeScope}
use Rattle.body_names.specs.CodeNames.{names_of_expressions, names_of_fields, names_of_items}
use Rattle.body_names.specs.CodeSpans.{own_spans, spans_of_expressions, spans_of_fields, spans_of_items}
use Rattle.body_names.specs.CodeTrees.{code_trees, field_trees, item_trees, field_of_value, fields_of_values}
use Rattle.body_names.specs.LoopScopes.{loops_of_expressions, loops_of_fields, loops_of_items}
use Rattle.body_names.proofs.CodeAddedLaws.{own}
use Rattle.body_names.proofs.CodeRemainsLaws.{Listing}

abbrev pub code_listing : TypeScope → Listing ExpressionData
code_listing w = record {
  trees = λ a xs. code_trees w a.scope a.names (expressions_of xs);
  spans = λ xs. spans_of_expressions (expressions_of xs);
  names = λ xs. names_of_expressions (expressions_of xs);
  loops = λ a xs. loops_of_expressions a.scope a.names a.nodes (expressions_of xs);
}

abbrev pub field_listing : TypeScope → Listing FieldValueData
field_listing w = record {
  trees = λ a xs. field_trees w a.scope a.names (field_values_of xs);
  spans = λ xs. spans_of_fields (field_values_of xs);
  names = λ xs. names_of_fields (field_values_of xs);
  loops = λ a xs. loops_of_fields a.scope a.names a.nodes (field_values_of xs);
}

abbrev pub item_listing : TypeScope → Listing ItemData
item_listing w = record {
  trees = λ a xs. item_trees w a.scope a.names (items_of xs);
  spans = λ xs. spans_of_items (items_of xs);
  names = λ xs. names_of_items (items_of xs);
  loops = λ a xs. loops_of_items a.scope a.names a.nodes (items_of xs);
}

-- items in parentheses have a span exactly if they have a node
pub own_spans-is : (w : TypeScope) (scope : List InScope) (n : ℕ) (span : Span) (xs : ExpressionsData) → own_spans span xs ≡ own span (code_trees w scope n xs)
own_spans-is w scope n span NoExpressions = refl
own_spans-is w scope n span (MoreExpressions x NoExpressions) = refl
own_spans-is w scope n span (MoreExpressions x (MoreExpressions y ys)) = refl

-- ---- the fields in a pack

pub field_of-is : (name : Identifier) (value : Option ExpressionData) → field_of_value (field_value_of name value) ≡ name.text
field_of-is name None = refl
field_of-is name (Some value) = refl

fields_of-map : (xs : List FieldValueData) → fields_of_values (field_values_of xs) ≡ map field_of_value xs
fields_of-map [] = refl
fields_of-map (x ∷ xs) = ap (λ ys. field_of_value x ∷ ys) (fields_of-map xs)

pub fields_taken : (xs : List FieldValueData) (i : ℕ) → length xs ≤ i → map field_of_value (take i xs) ≡ fields_of_values (field_values_of xs)
fields_taken xs i h = ap (map field_of_value) (take_all i xs h) ∙ sym (fields_of-map xs)
