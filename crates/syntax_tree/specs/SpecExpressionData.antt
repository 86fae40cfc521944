-- Spec expressions as pure data that contracts see. Source: the Move Specification Language reference, "Expressions".
use Rattle.std.specs.Prelude.{◌≡◌, ℕ, ◌+◌, Bool, List, [], ◌∷◌, refl}
use Rattle.std.proofs.Common.{ap, sym, ◌∙◌}
use Rattle.syntax_tree.specs.declared.lexeme.Identifier.{Identifier}
use Rattle.syntax_tree.specs.declared.literal.Literal.{Literal}
use Rattle.syntax_tree.specs.TypeTreeData.{MaybeArgumentsData}
use Rattle.syntax_tree.specs.declared.path.Path.{Path}
use Rattle.syntax_tree.specs.declared.spec_expression.operator.Quantifier.{Quantifier}
use Rattle.syntax_tree.specs.TypeTreeData.{SourceTypeData}
use Rattle.base.specs.declared.span.Span.{Span}
use Rattle.syntax_tree.specs.declared.spec_expression.operator.SpecOperator.{SpecOperator}

mutual
  pub data SpecExpressionData : Type 0 where
    SpecBinary : SpecExpressionData → SpecOperator → Span → SpecExpressionData → SpecExpressionData
    SpecQuantified : Quantifier → Span → BindsData → TriggersData → SpecExpressionData → SpecExpressionData
    SpecIf : Span → SpecExpressionData → SpecExpressionData → SpecExpressionData → SpecExpressionData
    SpecNot : Span → SpecExpressionData → SpecExpressionData
    SpecField : SpecExpressionData → Identifier → SpecExpressionData
    SpecIndex : SpecExpressionData → SpecExpressionData → SpecExpressionData
    SpecLiteral : Literal → SpecExpressionData
    SpecPath : Path → SpecExpressionData
    SpecCall : Path → MaybeArgumentsData → SpecExpressionsData → Bool → SpecExpressionData
    SpecPack : Path → MaybeArgumentsData → SpecFieldsData → Bool → SpecExpressionData
    SpecParenthesized : Span → SpecExpressionData → SpecExpressionData

  pub data BindData : Type 0 where
    TypedBind : Identifier → SourceTypeData → BindData
    RangeBind : Identifier → SpecExpressionData → BindData

  -- a trigger, and whether a comma follows its last expression
  pub data TriggerData : Type 0 where
    TriggerOf : SpecExpressionsData → Bool → TriggerData

  pub data SpecFieldData : Type 0 where
    ShortSpecField : Identifier → SpecFieldData
    LongSpecField : Identifier → SpecExpressionData → SpecFieldData

  pub data SpecExpressionsData : Type 0 where
    NoSpecExpressions : SpecExpressionsData
    MoreSpecExpressions : SpecExpressionData → SpecExpressionsData → SpecExpressionsData

  pub data BindsData : Type 0 where
    NoBinds : BindsData
    MoreBinds : BindData → BindsData → BindsData

  pub data TriggersData : Type 0 where
    NoTriggers : TriggersData
    MoreTriggers : TriggerData → TriggersData → TriggersData

  pub data SpecFieldsData : Type 0 where
    NoSpecFields : SpecFieldsData
    MoreSpecFields : SpecFieldData → SpecFieldsData → SpecFieldsData

-- the list as one of this family, and back
abbrev pub spec_expressions_of : List SpecExpressionData → SpecExpressionsData
spec_expressions_of [] = NoSpecExpressions
spec_expressions_of (x ∷ xs) = MoreSpecExpressions x (spec_expressions_of xs)

abbrev pub list_of_spec_expressions : SpecExpressionsData → List SpecExpressionData
list_of_spec_expressions NoSpecExpressions = []
list_of_spec_expressions (MoreSpecExpressions x xs) = x ∷ list_of_spec_expressions xs

pub list_of_spec_expressions-spec_expressions_of : (xs : List SpecExpressionData) → list_of_spec_expressions (spec_expressions_of xs) ≡ xs
list_of_spec_expressions-spec_expressions_of [] = refl
list_of_spec_expressions-spec_expressions_of (x ∷ xs) = ap (λ ys. x ∷ ys) (list_of_spec_expressions-spec_expressions_of xs)

pub spec_expressions_of_injective : (xs ys : List SpecExpressionData) → spec_expressions_of xs ≡ spec_expressions_of ys → xs ≡ ys
spec_expressions_of_injective xs ys e = sym (list_of_spec_expressions-spec_expressions_of xs) ∙ ap list_of_spec_expressions e ∙ list_of_spec_expressions-spec_expressions_of ys

-- the list as one of this family, and back
abbrev pub binds_of : List BindData → BindsData
binds_of [] = NoBinds
binds_of (x ∷ xs) = MoreBinds x (binds_of xs)

abbrev pub list_of_binds : BindsData → List BindData
list_of_binds NoBinds = []
list_of_binds (MoreBinds x xs) = x ∷ list_of_binds xs

pub list_of_binds-binds_of : (xs : List BindData) → list_of_binds (binds_of xs) ≡ xs
list_of_binds-binds_of [] = refl
list_of_binds-binds_of (x ∷ xs) = ap (λ ys. x ∷ ys) (list_of_binds-binds_of xs)

pub binds_of_injective : (xs ys : List BindData) → binds_of xs ≡ binds_of ys → xs ≡ ys
binds_of_injective xs ys e = sym (list_of_binds-binds_of xs) ∙ ap list_of_binds e ∙ list_of_binds-binds_of ys

-- the list as one of this family, and back
abbrev pub triggers_of : List TriggerData → TriggersData
triggers_of [] = NoTriggers
triggers_of (x ∷ xs) = MoreTriggers x (triggers_of xs)

abbrev pub list_of_triggers : TriggersData → List TriggerData
list_of_triggers NoTriggers = []
list_of_triggers (MoreTriggers x xs) = x ∷ list_of_triggers xs

pub list_of_triggers-triggers_of : (xs : List TriggerData) → list_of_triggers (triggers_of xs) ≡ xs
list_of_triggers-triggers_of [] = refl
list_of_triggers-triggers_of (x ∷ xs) = ap (λ ys. x ∷ ys) (list_of_triggers-triggers_of xs)

pub triggers_of_injective : (xs ys : List TriggerData) → triggers_of xs ≡ triggers_of ys → xs ≡ ys
triggers_of_injective xs ys e = sym (list_of_triggers-triggers_of xs) ∙ ap list_of_triggers e ∙ list_of_triggers-triggers_of ys

-- the list as one of this family, and back
abbrev pub spec_fields_of : List SpecFieldData → SpecFieldsData
spec_fields_of [] = NoSpecFields
spec_fields_of (x ∷ xs) = MoreSpecFields x (spec_fields_of xs)

abbrev pub list_of_spec_fields : SpecFieldsData → List SpecFieldData
list_of_spec_fields NoSpecFields = []
list_of_spec_fields (MoreSpecFields x xs) = x ∷ list_of_spec_fields xs

pub list_of_spec_fields-spec_fields_of : (xs : List SpecFieldData) → list_of_spec_fields (spec_fields_of xs) ≡ xs
list_of_spec_fields-spec_fields_of [] = refl
list_of_spec_fields-spec_fields_of (x ∷ xs) = ap (λ ys. x ∷ ys) (list_of_spec_fields-spec_fields_of xs)

pub spec_fields_of_injective : (xs ys : List SpecFieldData) → spec_fields_of xs ≡ spec_fields_of ys → xs ≡ ys
spec_fields_of_injective xs ys e = sym (list_of_spec_fields-spec_fields_of xs) ∙ ap list_of_spec_fields e ∙ list_of_spec_fields-spec_fields_of ys

-- the number of nodes, each cell of a list as one more
abbrev mutual
  pub spec_expression_size : SpecExpressionData → ℕ
  spec_expression_size (SpecBinary a b c d) = 1 + (spec_expression_size a + spec_expression_size d)
  spec_expression_size (SpecQuantified a b c d e) = 1 + (binds_size c + triggers_size d + spec_expression_size e)
  spec_expression_size (SpecIf a b c d) = 1 + (spec_expression_size b + spec_expression_size c + spec_expression_size d)
  spec_expression_size (SpecNot a b) = 1 + spec_expression_size b
  spec_expression_size (SpecField a b) = 1 + spec_expression_size a
  spec_expression_size (SpecIndex a b) = 1 + (spec_expression_size a + spec_expression_size b)
  spec_expression_size (SpecLiteral a) = 1
  spec_expression_size (SpecPath a) = 1
  spec_expression_size (SpecCall a b c d) = 1 + spec_expressions_size c
  spec_expression_size (SpecPack a b c d) = 1 + spec_fields_size c
  spec_expression_size (SpecParenthesized a b) = 1 + spec_expression_size b

  pub bind_size : BindData → ℕ
  bind_size (TypedBind a b) = 1
  bind_size (RangeBind a b) = 1 + spec_expression_size b

  pub trigger_size : TriggerData → ℕ
  trigger_size (TriggerOf a b) = 1 + spec_expressions_size a

  pub spec_field_size : SpecFieldData → ℕ
  spec_field_size (ShortSpecField a) = 1
  spec_field_size (LongSpecField a b) = 1 + spec_expression_size b

  pub spec_expressions_size : SpecExpressionsData → ℕ
  spec_expressions_size NoSpecExpressions = 1
  spec_expressions_size (MoreSpecExpressions a b) = 1 + (spec_expression_size a + spec_expressions_size b)

  pub binds_size : BindsData → ℕ
  binds_size NoBinds = 1
  binds_size (MoreBinds a b) = 1 + (bind_size a + binds_size b)

  pub triggers_size : TriggersData → ℕ
  triggers_size NoTriggers = 1
  triggers_size (MoreTriggers a b) = 1 + (trigger_size a + triggers_size b)

  pub spec_fields_size : SpecFieldsData → ℕ
  spec_fields_size NoSpecFields = 1
  spec_fields_size (MoreSpecFields a b) = 1 + (spec_field_size a + spec_fields_size b)
