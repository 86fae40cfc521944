-- Spec expressions with their names resolved: the tree of an expression, if these quantifier variables are in scope,
-- the innermost last, and n variables are bound before it in source order. The number of a variable is the number of
-- those bound before it. A use without a meaning has a bad tree, so a tree is sound exactly if each use in it has a
-- meaning. Source: the Move Specification Language reference, "Expressions".
use Rattle.std.specs.Prelude.{ℕ, ◌+◌, List, [], ◌∷◌, ◌++◌, length}
use Rattle.std.specs.Option.{option_map}
use Rattle.syntax_tree.specs.declared.path.Path.TheVariants.{Name as name_path}
use Rattle.syntax_tree.specs.SpecExpressionData.{SpecExpressionData, SpecBinary, SpecQuantified, SpecIf, SpecNot, SpecField, SpecIndex, SpecLiteral, SpecPath, SpecCall, SpecPack, SpecParenthesized, BindData, TypedBind, RangeBind, TriggerData, TriggerOf, SpecFieldData, ShortSpecField, LongSpecField, SpecExpressionsData, NoSpecExpressions, MoreSpecExpressions, BindsData, NoBinds, MoreBinds, TriggersData, NoTriggers, MoreTriggers, SpecFieldsData, NoSpecFields, MoreSpecFields, list_of_spec_expressions}
use Rattle.program.specs.Trees.{UnaryTree, BinaryTree, IfTree, ManyTree, NoTrees, MoreTrees}
use Rattle.program.specs.declared.spec.Domain.TheVariants.{Of, In}
use Rattle.program.specs.declared.spec.Bind.{Bind}
use Rattle.program.specs.declared.spec.SpecUnary.TheVariants.{Not, Field}
use Rattle.program.specs.declared.spec.SpecBinary.TheVariants.{Operator, Index}
use Rattle.program.specs.declared.spec.SpecMany.TheVariants.{Pack, Quantified}
use Rattle.scopes.specs.declared.scope.InScope.{InScope}
use Rattle.scopes.specs.TypeMeanings.{TypeScope}
use Rattle.body_names.specs.SpecForms.{SpecScope, SpecTree, SpecTrees, leaf_tree, many_tree, spec_operator_of, quantifier_of, literal_meaning, value_meaning, domain_type, domain_trees, call_meaning}
use Rattle.body_names.specs.SharedWords.{fields_meaning}
use Rattle.body_names.specs.SpecNames.{variables_of, variables_of_bind, variables_of_binds, variables_of_trigger, variables_of_triggers, variables_of_field, entered_by, entered_by_all}
use Rattle.body_names.specs.Joined.{joined}

abbrev pub field_of_value : SpecFieldData → List ℕ
field_of_value (ShortSpecField name) = name.text
field_of_value (LongSpecField name value) = name.text

-- the fields in a pack
abbrev pub fields_of_values : SpecFieldsData → List (List ℕ)
fields_of_values NoSpecFields = []
fields_of_values (MoreSpecFields one more) = field_of_value one ∷ fields_of_values more

-- the number of terms of a trigger
abbrev pub terms_of : TriggerData → ℕ
terms_of (TriggerOf items last) = length (list_of_spec_expressions items)

abbrev pub terms_of_triggers : TriggersData → List ℕ
terms_of_triggers NoTriggers = []
terms_of_triggers (MoreTriggers one more) = terms_of one ∷ terms_of_triggers more

-- a variable, before which n are bound, with its domain
abbrev pub bind_of : TypeScope → ℕ → BindData → Bind
bind_of w n (TypedBind name domain) = record { variable = n; domain = Of (domain_type w domain) }
bind_of w n (RangeBind name range) = record { variable = n; domain = In }

abbrev pub binds_in : TypeScope → ℕ → BindsData → List Bind
binds_in w n NoBinds = []
binds_in w n (MoreBinds one more) = bind_of w n one ∷ binds_in w (n + length (variables_of_bind one)) more

abbrev mutual
  pub spec_tree : SpecScope → List InScope → ℕ → SpecExpressionData → SpecTree
  spec_tree w scope n (SpecBinary left operator span right) =
      BinaryTree (Operator (spec_operator_of operator)) (spec_tree w scope n left)
      (spec_tree w scope (n + length (variables_of left)) right)
  spec_tree w scope n (SpecQuantified quantifier span binds terms body) =
      ManyTree (Quantified (quantifier_of quantifier) (binds_in w.types n binds) (terms_of_triggers terms))
      (joined (joined (bind_trees w scope n binds) (trigger_trees w (scope ++ entered_by_all n binds) (n + length (variables_of_binds binds)) terms))
      (MoreTrees (spec_tree w (scope ++ entered_by_all n binds) ((n + length (variables_of_binds binds)) + length (variables_of_triggers terms)) body) NoTrees))
  spec_tree w scope n (SpecIf span condition then_branch else_branch) =
      IfTree (spec_tree w scope n condition) (spec_tree w scope (n + length (variables_of condition)) then_branch)
      (spec_tree w scope ((n + length (variables_of condition)) + length (variables_of then_branch)) else_branch)
  spec_tree w scope n (SpecNot span operand) = UnaryTree Not (spec_tree w scope n operand)
  spec_tree w scope n (SpecField base field) = UnaryTree (Field field.text) (spec_tree w scope n base)
  spec_tree w scope n (SpecIndex base index) =
      BinaryTree Index (spec_tree w scope n base) (spec_tree w scope (n + length (variables_of base)) index)
  spec_tree w scope n (SpecLiteral literal) = leaf_tree (literal_meaning w.types literal)
  spec_tree w scope n (SpecPath path) = leaf_tree (value_meaning w scope path)
  spec_tree w scope n (SpecCall function types values last) =
      many_tree (call_meaning w.types function types) (spec_trees w scope n values)
  spec_tree w scope n (SpecPack path types fields last) =
      many_tree (option_map Pack (fields_meaning w.types path types (fields_of_values fields))) (field_trees w scope n fields)
  spec_tree w scope n (SpecParenthesized span inside) = spec_tree w scope n inside

  -- the variables before its own are in scope in a range
  pub bind_tree : SpecScope → List InScope → ℕ → BindData → SpecTrees
  bind_tree w scope n (TypedBind name domain) = domain_trees w.types domain
  bind_tree w scope n (RangeBind name range) = MoreTrees (spec_tree w scope (n + 1) range) NoTrees

  pub bind_trees : SpecScope → List InScope → ℕ → BindsData → SpecTrees
  bind_trees w scope n NoBinds = NoTrees
  bind_trees w scope n (MoreBinds one more) =
      joined (bind_tree w scope n one) (bind_trees w (scope ++ entered_by n one) (n + length (variables_of_bind one)) more)

  pub trigger_tree : SpecScope → List InScope → ℕ → TriggerData → SpecTrees
  trigger_tree w scope n (TriggerOf items last) = spec_trees w scope n items

  pub trigger_trees : SpecScope → List InScope → ℕ → TriggersData → SpecTrees
  trigger_trees w scope n NoTriggers = NoTrees
  trigger_trees w scope n (MoreTriggers one more) =
      joined (trigger_tree w scope n one) (trigger_trees w scope (n + length (variables_of_trigger one)) more)

  -- a field without a value is set to the value of its name
  pub field_tree : SpecScope → List InScope → ℕ → SpecFieldData → SpecTree
  field_tree w scope n (ShortSpecField name) = leaf_tree (value_meaning w scope (name_path name))
  field_tree w scope n (LongSpecField name value) = spec_tree w scope n value

  pub field_trees : SpecScope → List InScope → ℕ → SpecFieldsData → SpecTrees
  field_trees w scope n NoSpecFields = NoTrees
  field_trees w scope n (MoreSpecFields one more) =
      MoreTrees (field_tree w scope n one) (field_trees w scope (n + length (variables_of_field one)) more)

  pub spec_trees : SpecScope → List InScope → ℕ → SpecExpressionsData → SpecTrees
  spec_trees w scope n NoSpecExpressions = NoTrees
  spec_trees w scope n (MoreSpecExpressions one more) =
      MoreTrees (spec_tree w scope n one) (spec_trees w scope (n + length (variables_of one)) more)
