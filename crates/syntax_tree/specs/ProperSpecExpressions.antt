-- Proper spec expressions: those of the grammar. Beside the spelling, the grammar has the levels of the operators and
-- rules on names, last commas, packs and binds. Source: the Move Specification Language reference, "Expressions"; the
-- levels and the associativity of `==>` and `<==>` are this project's profile.
use Rattle.std.specs.Prelude.{◌≡◌, ◌≤◌, ℕ, suc, true}
use Rattle.syntax_tree.specs.NameRules.{IsName, IsCapital}
use Rattle.syntax_tree.specs.ProperTypes.{IsProperPath, last_name, IsProperType, AreProperMaybeArguments}
use Rattle.syntax_tree.specs.ProperExpressions.{operator_level, unary_level, term_level, IsProperLiteral}
use Rattle.syntax_tree.specs.declared.spec_expression.operator.SpecOperator.{SpecOperator}
use Rattle.syntax_tree.specs.declared.spec_expression.operator.SpecOperator.TheVariants.{Equivalent, Implies, Range, Common}
use Rattle.syntax_tree.specs.SpecExpressionData.{SpecExpressionData, SpecBinary, SpecQuantified, SpecIf, SpecNot, SpecField, SpecIndex, SpecLiteral, SpecPath, SpecCall, SpecPack, SpecParenthesized, BindData, TypedBind, RangeBind, TriggerData, TriggerOf, SpecFieldData, ShortSpecField, LongSpecField, SpecExpressionsData, NoSpecExpressions, MoreSpecExpressions, BindsData, NoBinds, MoreBinds, TriggersData, NoTriggers, MoreTriggers, SpecFieldsData, NoSpecFields, MoreSpecFields}

-- ---- levels

abbrev pub spec_operator_level : SpecOperator → ℕ
spec_operator_level Equivalent = 1
spec_operator_level Implies = 2
spec_operator_level Range = 6
spec_operator_level (Common operator) = operator_level operator

-- `==>` associates to the right, and all others to the left
abbrev pub left_level : SpecOperator → ℕ
left_level Implies = 3
left_level operator = spec_operator_level operator

abbrev pub right_level : SpecOperator → ℕ
right_level Implies = 2
right_level operator = suc (spec_operator_level operator)

abbrev pub level : SpecExpressionData → ℕ
level (SpecBinary left operator span right) = spec_operator_level operator
level (SpecNot span operand) = unary_level
level (SpecQuantified quantifier span binds _ body) = 0
level (SpecIf span condition then_branch else_branch) = 0
level _ = term_level

-- ---- the range of a bind: a pack is allowed only inside its brackets, since a `{` outside them opens triggers

abbrev pub HasNoOpenPack : SpecExpressionData → Type 0
HasNoOpenPack (SpecBinary left operator span right) = HasNoOpenPack left × HasNoOpenPack right
HasNoOpenPack (SpecQuantified quantifier span binds _ body) = HasNoOpenPack body
HasNoOpenPack (SpecIf span condition then_branch else_branch) = HasNoOpenPack then_branch × HasNoOpenPack else_branch
HasNoOpenPack (SpecNot span operand) = HasNoOpenPack operand
HasNoOpenPack (SpecField base field) = HasNoOpenPack base
HasNoOpenPack (SpecIndex base index) = HasNoOpenPack base
HasNoOpenPack (SpecPack path _ fields last) = ⊥
HasNoOpenPack _ = Unit {0}

-- ---- last commas

abbrev pub AreSome : SpecExpressionsData → Type 0
AreSome NoSpecExpressions = ⊥
AreSome (MoreSpecExpressions one more) = Unit {0}

abbrev pub AreSomeBinds : BindsData → Type 0
AreSomeBinds NoBinds = ⊥
AreSomeBinds (MoreBinds one more) = Unit {0}

abbrev pub AreSomeFields : SpecFieldsData → Type 0
AreSomeFields NoSpecFields = ⊥
AreSomeFields (MoreSpecFields one more) = Unit {0}

-- ---- the trees

abbrev mutual
  pub IsProperSpec : SpecExpressionData → Type 0
  IsProperSpec (SpecBinary left operator span right) =
      IsProperSpec left × IsProperSpec right
      × (left_level operator ≤ level left) × (right_level operator ≤ level right)
  IsProperSpec (SpecQuantified quantifier span binds triggers body) =
      AreProperBinds binds × AreSomeBinds binds × AreProperTriggers triggers × IsProperSpec body
  IsProperSpec (SpecIf span condition then_branch else_branch) =
      IsProperSpec condition × IsProperSpec then_branch × IsProperSpec else_branch
  IsProperSpec (SpecNot span operand) = IsProperSpec operand × (unary_level ≤ level operand)
  IsProperSpec (SpecField base field) = IsProperSpec base × (term_level ≤ level base) × IsName field.text
  IsProperSpec (SpecIndex base index) = IsProperSpec base × (term_level ≤ level base) × IsProperSpec index
  IsProperSpec (SpecLiteral literal) = IsProperLiteral literal
  IsProperSpec (SpecPath path) = IsProperPath path
  IsProperSpec (SpecCall function arguments values last) =
      IsProperPath function × AreProperMaybeArguments arguments
      × AreProperSpecs values × (last ≡ true → AreSome values)
  IsProperSpec (SpecPack path arguments fields last) =
      IsProperPath path × IsCapital (last_name path) × AreProperMaybeArguments arguments
      × AreProperFields fields × (last ≡ true → AreSomeFields fields)
  IsProperSpec (SpecParenthesized span inner) = IsProperSpec inner

  pub IsProperBind : BindData → Type 0
  IsProperBind (TypedBind name t) = IsName name.text × IsProperType t
  IsProperBind (RangeBind name range) = IsName name.text × IsProperSpec range × HasNoOpenPack range

  pub IsProperTrigger : TriggerData → Type 0
  IsProperTrigger (TriggerOf items last) = AreProperSpecs items × AreSome items

  pub IsProperField : SpecFieldData → Type 0
  IsProperField (ShortSpecField name) = IsName name.text
  IsProperField (LongSpecField name value) = IsName name.text × IsProperSpec value

  pub AreProperSpecs : SpecExpressionsData → Type 0
  AreProperSpecs NoSpecExpressions = Unit {0}
  AreProperSpecs (MoreSpecExpressions one more) = IsProperSpec one × AreProperSpecs more

  pub AreProperBinds : BindsData → Type 0
  AreProperBinds NoBinds = Unit {0}
  AreProperBinds (MoreBinds one more) = IsProperBind one × AreProperBinds more

  pub AreProperTriggers : TriggersData → Type 0
  AreProperTriggers NoTriggers = Unit {0}
  AreProperTriggers (MoreTriggers one more) = IsProperTrigger one × AreProperTriggers more

  pub AreProperFields : SpecFieldsData → Type 0
  AreProperFields NoSpecFields = Unit {0}
  AreProperFields (MoreSpecFields one more) = IsProperField one × AreProperFields more
