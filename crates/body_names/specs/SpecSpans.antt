-- The spans of the nodes of spec expressions, in the order of the nodes: that of the node's own sign, word or first
-- token; for an index that of the first token of the vector.
use Rattle.std.specs.Prelude.{List, [], ◌∷◌, ◌++◌}
use Rattle.base.specs.declared.span.Span.{Span}
use Rattle.syntax_tree.specs.SpecExpressionData.{SpecExpressionData, SpecBinary, SpecQuantified, SpecIf, SpecNot, SpecField, SpecIndex, SpecLiteral, SpecPath, SpecCall, SpecPack, SpecParenthesized, BindData, TypedBind, RangeBind, TriggerData, TriggerOf, SpecFieldData, ShortSpecField, LongSpecField, SpecExpressionsData, NoSpecExpressions, MoreSpecExpressions, BindsData, NoBinds, MoreBinds, TriggersData, NoTriggers, MoreTriggers, SpecFieldsData, NoSpecFields, MoreSpecFields}
use Rattle.body_names.specs.FirstSpans.{path_span, literal_span}

-- the span of the first token
abbrev pub first_span : SpecExpressionData → Span
first_span (SpecBinary left operator span right) = first_span left
first_span (SpecQuantified quantifier span _ _ body) = span
first_span (SpecIf span condition then_branch else_branch) = span
first_span (SpecNot span operand) = span
first_span (SpecField base field) = first_span base
first_span (SpecIndex base index) = first_span base
first_span (SpecLiteral literal) = literal_span literal
first_span (SpecPath path) = path_span path
first_span (SpecCall function types values last) = path_span function
first_span (SpecPack path types fields last) = path_span path
first_span (SpecParenthesized span inside) = span

abbrev mutual
  pub spans_of : SpecExpressionData → List Span
  spans_of (SpecBinary left operator span right) = (spans_of left ++ spans_of right) ++ span ∷ []
  spans_of (SpecQuantified quantifier span binds terms body) =
      ((spans_of_binds binds ++ spans_of_triggers terms) ++ spans_of body) ++ span ∷ []
  spans_of (SpecIf span condition then_branch else_branch) =
      ((spans_of condition ++ spans_of then_branch) ++ spans_of else_branch) ++ span ∷ []
  spans_of (SpecNot span operand) = spans_of operand ++ span ∷ []
  spans_of (SpecField base field) = spans_of base ++ field.span ∷ []
  spans_of (SpecIndex base index) = (spans_of base ++ spans_of index) ++ first_span base ∷ []
  spans_of (SpecLiteral literal) = literal_span literal ∷ []
  spans_of (SpecPath path) = path_span path ∷ []
  spans_of (SpecCall function types values last) = spans_of_all values ++ path_span function ∷ []
  spans_of (SpecPack path types fields last) = spans_of_fields fields ++ path_span path ∷ []
  spans_of (SpecParenthesized span inside) = spans_of inside

  pub spans_of_bind : BindData → List Span
  spans_of_bind (TypedBind name domain) = []
  spans_of_bind (RangeBind name range) = spans_of range

  pub spans_of_binds : BindsData → List Span
  spans_of_binds NoBinds = []
  spans_of_binds (MoreBinds one more) = spans_of_bind one ++ spans_of_binds more

  pub spans_of_trigger : TriggerData → List Span
  spans_of_trigger (TriggerOf items last) = spans_of_all items

  pub spans_of_triggers : TriggersData → List Span
  spans_of_triggers NoTriggers = []
  spans_of_triggers (MoreTriggers one more) = spans_of_trigger one ++ spans_of_triggers more

  pub spans_of_field : SpecFieldData → List Span
  spans_of_field (ShortSpecField name) = name.span ∷ []
  spans_of_field (LongSpecField name value) = spans_of value

  pub spans_of_fields : SpecFieldsData → List Span
  spans_of_fields NoSpecFields = []
  spans_of_fields (MoreSpecFields one more) = spans_of_field one ++ spans_of_fields more

  pub spans_of_all : SpecExpressionsData → List Span
  spans_of_all NoSpecExpressions = []
  spans_of_all (MoreSpecExpressions one more) = spans_of one ++ spans_of_all more
