-- The variables that the quantifiers of a spec expression bind, in source order, and those in scope after the binds of
-- a quantifier. Source: the Move Specification Language reference, "Expressions", on quantifiers.
use Rattle.std.specs.Prelude.{ℕ, ◌+◌, List, [], ◌∷◌, ◌++◌, length}
use Rattle.syntax_tree.specs.SpecExpressionData.{SpecExpressionData, SpecBinary, SpecQuantified, SpecIf, SpecNot, SpecField, SpecIndex, SpecLiteral, SpecPath, SpecCall, SpecPack, SpecParenthesized, BindData, TypedBind, RangeBind, TriggerData, TriggerOf, SpecFieldData, ShortSpecField, LongSpecField, SpecExpressionsData, NoSpecExpressions, MoreSpecExpressions, BindsData, NoBinds, MoreBinds, TriggersData, NoTriggers, MoreTriggers, SpecFieldsData, NoSpecFields, MoreSpecFields}
use Rattle.scopes.specs.declared.scope.InScope.{InScope}

abbrev mutual
  pub variables_of : SpecExpressionData → List (List ℕ)
  variables_of (SpecBinary left operator span right) = variables_of left ++ variables_of right
  variables_of (SpecQuantified quantifier span binds terms body) =
      (variables_of_binds binds ++ variables_of_triggers terms) ++ variables_of body
  variables_of (SpecIf span condition then_branch else_branch) =
      (variables_of condition ++ variables_of then_branch) ++ variables_of else_branch
  variables_of (SpecNot span operand) = variables_of operand
  variables_of (SpecField base field) = variables_of base
  variables_of (SpecIndex base index) = variables_of base ++ variables_of index
  variables_of (SpecLiteral literal) = []
  variables_of (SpecPath path) = []
  variables_of (SpecCall function types values last) = variables_of_all values
  variables_of (SpecPack path types fields last) = variables_of_fields fields
  variables_of (SpecParenthesized span inside) = variables_of inside

  -- a variable comes before its range
  pub variables_of_bind : BindData → List (List ℕ)
  variables_of_bind (TypedBind name domain) = name.text ∷ []
  variables_of_bind (RangeBind name range) = name.text ∷ variables_of range

  pub variables_of_binds : BindsData → List (List ℕ)
  variables_of_binds NoBinds = []
  variables_of_binds (MoreBinds one more) = variables_of_bind one ++ variables_of_binds more

  pub variables_of_trigger : TriggerData → List (List ℕ)
  variables_of_trigger (TriggerOf items last) = variables_of_all items

  pub variables_of_triggers : TriggersData → List (List ℕ)
  variables_of_triggers NoTriggers = []
  variables_of_triggers (MoreTriggers one more) = variables_of_trigger one ++ variables_of_triggers more

  pub variables_of_field : SpecFieldData → List (List ℕ)
  variables_of_field (ShortSpecField name) = []
  variables_of_field (LongSpecField name value) = variables_of value

  pub variables_of_fields : SpecFieldsData → List (List ℕ)
  variables_of_fields NoSpecFields = []
  variables_of_fields (MoreSpecFields one more) = variables_of_field one ++ variables_of_fields more

  pub variables_of_all : SpecExpressionsData → List (List ℕ)
  variables_of_all NoSpecExpressions = []
  variables_of_all (MoreSpecExpressions one more) = variables_of one ++ variables_of_all more

-- the variable that a bind brings into scope after it, if n are bound before it
abbrev pub entered_by : ℕ → BindData → List InScope
entered_by n (TypedBind name domain) = record { name = name.text; number = n } ∷ []
entered_by n (RangeBind name range) = record { name = name.text; number = n } ∷ []

abbrev pub entered_by_all : ℕ → BindsData → List InScope
entered_by_all n NoBinds = []
entered_by_all n (MoreBinds one more) = entered_by n one ++ entered_by_all (n + length (variables_of_bind one)) more
