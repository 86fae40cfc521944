-- The codes by which the logic stores spec expressions: each as a tree of numbers, and back.
use base.Stored.{Gv, gnil, gnum, gcons}
use denote.Struct.Codes.{itself}
use Rattle.std.specs.Prelude.{◌≡◌, false, [], ◌∷◌, refl}
use Rattle.std.specs.Coded.{Coded, code_by}
use Rattle.base.specs.Codes.{pick}
use Rattle.syntax_tree.specs.LeafCodes.{bool_back, bool_back-code, bool_code, identifier_back, identifier_back-code, identifier_code, path_back, path_back-code, path_code, span_back, span_back-code, span_code}
use Rattle.syntax_tree.specs.OperatorCodes.{literal_back, literal_back-code, literal_code}
use Rattle.syntax_tree.specs.TypeTreeCodes.{maybe_arguments_back, maybe_arguments_back-code, maybe_arguments_code, source_type_back, source_type_back-code, source_type_code}
use Rattle.syntax_tree.specs.SpecOperatorCodes.{quantifier_back, quantifier_back-code, quantifier_code, spec_operator_back, spec_operator_back-code, spec_operator_code}
use Rattle.syntax_tree.specs.SpecExpressionData.{SpecExpressionData, SpecBinary, SpecQuantified, SpecIf, SpecNot, SpecField, SpecIndex, SpecLiteral, SpecPath, SpecCall, SpecPack, SpecParenthesized, BindData, TypedBind, RangeBind, TriggerData, TriggerOf, SpecFieldData, ShortSpecField, LongSpecField, SpecExpressionsData, NoSpecExpressions, MoreSpecExpressions, BindsData, NoBinds, MoreBinds, TriggersData, NoTriggers, MoreTriggers, SpecFieldsData, NoSpecFields, MoreSpecFields}

abbrev mutual
  pub spec_expression_code : SpecExpressionData → Gv
  spec_expression_code (SpecBinary a b c d) = gcons (gnum 0) (gcons (spec_expression_code a) (gcons (spec_operator_code b) (gcons (span_code c) (gcons (spec_expression_code d) gnil))))
  spec_expression_code (SpecQuantified a b c d e) = gcons (gnum 1) (gcons (quantifier_code a) (gcons (span_code b) (gcons (binds_code c) (gcons (triggers_code d) (spec_expression_code e)))))
  spec_expression_code (SpecIf a b c d) = gcons (gnum 2) (gcons (span_code a) (gcons (spec_expression_code b) (gcons (spec_expression_code c) (gcons (spec_expression_code d) gnil))))
  spec_expression_code (SpecNot a b) = gcons (gnum 3) (gcons (span_code a) (gcons (spec_expression_code b) (gcons gnil (gcons gnil gnil))))
  spec_expression_code (SpecField a b) = gcons (gnum 4) (gcons (spec_expression_code a) (gcons (identifier_code b) (gcons gnil (gcons gnil gnil))))
  spec_expression_code (SpecIndex a b) = gcons (gnum 5) (gcons (spec_expression_code a) (gcons (spec_expression_code b) (gcons gnil (gcons gnil gnil))))
  spec_expression_code (SpecLiteral a) = gcons (gnum 6) (gcons (literal_code a) (gcons gnil (gcons gnil (gcons gnil gnil))))
  spec_expression_code (SpecPath a) = gcons (gnum 7) (gcons (path_code a) (gcons gnil (gcons gnil (gcons gnil gnil))))
  spec_expression_code (SpecCall a b c d) = gcons (gnum 8) (gcons (path_code a) (gcons (maybe_arguments_code b) (gcons (spec_expressions_code c) (gcons (bool_code d) gnil))))
  spec_expression_code (SpecPack a b c d) = gcons (gnum 9) (gcons (path_code a) (gcons (maybe_arguments_code b) (gcons (spec_fields_code c) (gcons (bool_code d) gnil))))
  spec_expression_code (SpecParenthesized a b) = gcons (gnum 10) (gcons (span_code a) (gcons (spec_expression_code b) (gcons gnil (gcons gnil gnil))))

  pub bind_code : BindData → Gv
  bind_code (TypedBind a b) = gcons (gnum 0) (gcons (identifier_code a) (source_type_code b))
  bind_code (RangeBind a b) = gcons (gnum 1) (gcons (identifier_code a) (spec_expression_code b))

  pub trigger_code : TriggerData → Gv
  trigger_code (TriggerOf a b) = gcons (gnum 0) (gcons (spec_expressions_code a) (bool_code b))

  pub spec_field_code : SpecFieldData → Gv
  spec_field_code (ShortSpecField a) = gcons (gnum 0) (gcons (identifier_code a) gnil)
  spec_field_code (LongSpecField a b) = gcons (gnum 1) (gcons (identifier_code a) (spec_expression_code b))

  pub spec_expressions_code : SpecExpressionsData → Gv
  spec_expressions_code NoSpecExpressions = gnil
  spec_expressions_code (MoreSpecExpressions a b) = gcons (spec_expression_code a) (spec_expressions_code b)

  pub binds_code : BindsData → Gv
  binds_code NoBinds = gnil
  binds_code (MoreBinds a b) = gcons (bind_code a) (binds_code b)

  pub triggers_code : TriggersData → Gv
  triggers_code NoTriggers = gnil
  triggers_code (MoreTriggers a b) = gcons (trigger_code a) (triggers_code b)

  pub spec_fields_code : SpecFieldsData → Gv
  spec_fields_code NoSpecFields = gnil
  spec_fields_code (MoreSpecFields a b) = gcons (spec_field_code a) (spec_fields_code b)

abbrev mutual
  pub spec_expression_back : Gv → SpecExpressionData
  spec_expression_back (gcons (gnum n) (gcons a (gcons b (gcons c (gcons d e))))) =
      pick n (SpecLiteral (literal_back gnil)) (SpecBinary (spec_expression_back a) (spec_operator_back b) (span_back c) (spec_expression_back d) ∷ SpecQuantified (quantifier_back a) (span_back b) (binds_back c) (triggers_back d) (spec_expression_back e) ∷ SpecIf (span_back a) (spec_expression_back b) (spec_expression_back c) (spec_expression_back d) ∷ SpecNot (span_back a) (spec_expression_back b) ∷ SpecField (spec_expression_back a) (identifier_back b) ∷ SpecIndex (spec_expression_back a) (spec_expression_back b) ∷ SpecLiteral (literal_back a) ∷ SpecPath (path_back a) ∷ SpecCall (path_back a) (maybe_arguments_back b) (spec_expressions_back c) (bool_back d) ∷ SpecPack (path_back a) (maybe_arguments_back b) (spec_fields_back c) (bool_back d) ∷ SpecParenthesized (span_back a) (spec_expression_back b) ∷ [])
  spec_expression_back _ = SpecLiteral (literal_back gnil)

  pub bind_back : Gv → BindData
  bind_back (gcons (gnum n) (gcons a b)) =
      pick n (RangeBind (identifier_back gnil) (SpecLiteral (literal_back gnil))) (TypedBind (identifier_back a) (source_type_back b) ∷ RangeBind (identifier_back a) (spec_expression_back b) ∷ [])
  bind_back _ = RangeBind (identifier_back gnil) (SpecLiteral (literal_back gnil))

  pub trigger_back : Gv → TriggerData
  trigger_back (gcons (gnum n) (gcons a b)) =
      pick n (TriggerOf NoSpecExpressions false) (TriggerOf (spec_expressions_back a) (bool_back b) ∷ [])
  trigger_back _ = TriggerOf NoSpecExpressions false

  pub spec_field_back : Gv → SpecFieldData
  spec_field_back (gcons (gnum n) (gcons a b)) =
      pick n (ShortSpecField (identifier_back gnil)) (ShortSpecField (identifier_back a) ∷ LongSpecField (identifier_back a) (spec_expression_back b) ∷ [])
  spec_field_back _ = ShortSpecField (identifier_back gnil)

  pub spec_expressions_back : Gv → SpecExpressionsData
  spec_expressions_back gnil = NoSpecExpressions
  spec_expressions_back (gnum n) = NoSpecExpressions
  spec_expressions_back (gcons a b) = MoreSpecExpressions (spec_expression_back a) (spec_expressions_back b)

  pub binds_back : Gv → BindsData
  binds_back gnil = NoBinds
  binds_back (gnum n) = NoBinds
  binds_back (gcons a b) = MoreBinds (bind_back a) (binds_back b)

  pub triggers_back : Gv → TriggersData
  triggers_back gnil = NoTriggers
  triggers_back (gnum n) = NoTriggers
  triggers_back (gcons a b) = MoreTriggers (trigger_back a) (triggers_back b)

  pub spec_fields_back : Gv → SpecFieldsData
  spec_fields_back gnil = NoSpecFields
  spec_fields_back (gnum n) = NoSpecFields
  spec_fields_back (gcons a b) = MoreSpecFields (spec_field_back a) (spec_fields_back b)

mutual
  pub spec_expression_back-code : (x : SpecExpressionData) → spec_expression_back (spec_expression_code x) ≡ x
  spec_expression_back-code (SpecBinary a b c d) = λ i. SpecBinary (spec_expression_back-code a i) (spec_operator_back-code b i) (span_back-code c i) (spec_expression_back-code d i)
  spec_expression_back-code (SpecQuantified a b c d e) = λ i. SpecQuantified (quantifier_back-code a i) (span_back-code b i) (binds_back-code c i) (triggers_back-code d i) (spec_expression_back-code e i)
  spec_expression_back-code (SpecIf a b c d) = λ i. SpecIf (span_back-code a i) (spec_expression_back-code b i) (spec_expression_back-code c i) (spec_expression_back-code d i)
  spec_expression_back-code (SpecNot a b) = λ i. SpecNot (span_back-code a i) (spec_expression_back-code b i)
  spec_expression_back-code (SpecField a b) = λ i. SpecField (spec_expression_back-code a i) (identifier_back-code b i)
  spec_expression_back-code (SpecIndex a b) = λ i. SpecIndex (spec_expression_back-code a i) (spec_expression_back-code b i)
  spec_expression_back-code (SpecLiteral a) = λ i. SpecLiteral (literal_back-code a i)
  spec_expression_back-code (SpecPath a) = λ i. SpecPath (path_back-code a i)
  spec_expression_back-code (SpecCall a b c d) = λ i. SpecCall (path_back-code a i) (maybe_arguments_back-code b i) (spec_expressions_back-code c i) (bool_back-code d i)
  spec_expression_back-code (SpecPack a b c d) = λ i. SpecPack (path_back-code a i) (maybe_arguments_back-code b i) (spec_fields_back-code c i) (bool_back-code d i)
  spec_expression_back-code (SpecParenthesized a b) = λ i. SpecParenthesized (span_back-code a i) (spec_expression_back-code b i)

  pub bind_back-code : (x : BindData) → bind_back (bind_code x) ≡ x
  bind_back-code (TypedBind a b) = λ i. TypedBind (identifier_back-code a i) (source_type_back-code b i)
  bind_back-code (RangeBind a b) = λ i. RangeBind (identifier_back-code a i) (spec_expression_back-code b i)

  pub trigger_back-code : (x : TriggerData) → trigger_back (trigger_code x) ≡ x
  trigger_back-code (TriggerOf a b) = λ i. TriggerOf (spec_expressions_back-code a i) (bool_back-code b i)

  pub spec_field_back-code : (x : SpecFieldData) → spec_field_back (spec_field_code x) ≡ x
  spec_field_back-code (ShortSpecField a) = λ i. ShortSpecField (identifier_back-code a i)
  spec_field_back-code (LongSpecField a b) = λ i. LongSpecField (identifier_back-code a i) (spec_expression_back-code b i)

  pub spec_expressions_back-code : (x : SpecExpressionsData) → spec_expressions_back (spec_expressions_code x) ≡ x
  spec_expressions_back-code NoSpecExpressions = refl
  spec_expressions_back-code (MoreSpecExpressions a b) = λ i. MoreSpecExpressions (spec_expression_back-code a i) (spec_expressions_back-code b i)

  pub binds_back-code : (x : BindsData) → binds_back (binds_code x) ≡ x
  binds_back-code NoBinds = refl
  binds_back-code (MoreBinds a b) = λ i. MoreBinds (bind_back-code a i) (binds_back-code b i)

  pub triggers_back-code : (x : TriggersData) → triggers_back (triggers_code x) ≡ x
  triggers_back-code NoTriggers = refl
  triggers_back-code (MoreTriggers a b) = λ i. MoreTriggers (trigger_back-code a i) (triggers_back-code b i)

  pub spec_fields_back-code : (x : SpecFieldsData) → spec_fields_back (spec_fields_code x) ≡ x
  spec_fields_back-code NoSpecFields = refl
  spec_fields_back-code (MoreSpecFields a b) = λ i. MoreSpecFields (spec_field_back-code a i) (spec_fields_back-code b i)

abbrev pub coded_spec_expression : Coded SpecExpressionData
coded_spec_expression = code_by Gv itself spec_expression_code spec_expression_back spec_expression_back-code

abbrev pub coded_bind : Coded BindData
coded_bind = code_by Gv itself bind_code bind_back bind_back-code

abbrev pub coded_trigger : Coded TriggerData
coded_trigger = code_by Gv itself trigger_code trigger_back trigger_back-code

abbrev pub coded_spec_field : Coded SpecFieldData
coded_spec_field = code_by Gv itself spec_field_code spec_field_back spec_field_back-code
