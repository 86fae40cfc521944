-- The codes by which the logic stores expressions, blocks and items: each as a tree of numbers, and back.
use base.Stored.{Gv, gnil, gnum, gcons}
use denote.Struct.Codes.{itself}
use Rattle.std.specs.Prelude.{◌≡◌, None, [], ◌∷◌, refl}
use Rattle.std.specs.Coded.{Coded, code_by}
use Rattle.base.specs.Codes.{pick}
use Rattle.syntax_tree.specs.LeafCodes.{bool_back, bool_back-code, bool_code, identifier_back, identifier_back-code, identifier_code, path_back, path_back-code, path_code, span_back, span_back-code, span_code}
use Rattle.syntax_tree.specs.OperatorCodes.{binary_operator_back, binary_operator_back-code, binary_operator_code, literal_back, literal_back-code, literal_code, unary_operator_back, unary_operator_back-code, unary_operator_code, use_kind_back, use_kind_back-code, use_kind_code}
use Rattle.syntax_tree.specs.PatternCodes.{pattern_back, pattern_back-code, pattern_code}
use Rattle.syntax_tree.specs.SpecTokenCodes.{maybe_kept_spec_back, maybe_kept_spec_back-code, maybe_kept_spec_code, maybe_source_type_back, maybe_source_type_back-code, maybe_source_type_code}
use Rattle.syntax_tree.specs.TypeTreeCodes.{maybe_arguments_back, maybe_arguments_back-code, maybe_arguments_code, source_type_back, source_type_back-code, source_type_code}
use Rattle.syntax_tree.specs.ExpressionData.{ExpressionData, BinaryExpression, AssignExpression, IfExpression, WhileExpression, LoopExpression, ReturnExpression, AbortExpression, BreakExpression, ContinueExpression, UnaryExpression, UseExpression, FieldExpression, LiteralExpression, PathExpression, CallExpression, PackExpression, VectorExpression, AssertExpression, TupleExpression, CastExpression, BlockExpression, MaybeExpressionData, NoExpression, SomeExpression, BlockData, BlockOf, ItemData, ExpressionItem, LetItem, FieldValueData, ShortFieldValue, LongFieldValue, ExpressionsData, NoExpressions, MoreExpressions, ItemsData, NoItems, MoreItems, FieldValuesData, NoFieldValues, MoreFieldValues}

abbrev mutual
  pub expression_code : ExpressionData → Gv
  expression_code (BinaryExpression a b c d) = gcons (gnum 0) (gcons (expression_code a) (gcons (binary_operator_code b) (gcons (span_code c) (expression_code d))))
  expression_code (AssignExpression a b c) = gcons (gnum 1) (gcons (expression_code a) (gcons (span_code b) (gcons (expression_code c) gnil)))
  expression_code (IfExpression a b c d) = gcons (gnum 2) (gcons (span_code a) (gcons (expression_code b) (gcons (expression_code c) (maybe_expression_code d))))
  expression_code (WhileExpression a b c) = gcons (gnum 3) (gcons (span_code a) (gcons (expression_code b) (gcons (expression_code c) gnil)))
  expression_code (LoopExpression a b) = gcons (gnum 4) (gcons (span_code a) (gcons (expression_code b) (gcons gnil gnil)))
  expression_code (ReturnExpression a b) = gcons (gnum 5) (gcons (span_code a) (gcons (maybe_expression_code b) (gcons gnil gnil)))
  expression_code (AbortExpression a b) = gcons (gnum 6) (gcons (span_code a) (gcons (expression_code b) (gcons gnil gnil)))
  expression_code (BreakExpression a) = gcons (gnum 7) (gcons (span_code a) (gcons gnil (gcons gnil gnil)))
  expression_code (ContinueExpression a) = gcons (gnum 8) (gcons (span_code a) (gcons gnil (gcons gnil gnil)))
  expression_code (UnaryExpression a b c) = gcons (gnum 9) (gcons (unary_operator_code a) (gcons (span_code b) (gcons (expression_code c) gnil)))
  expression_code (UseExpression a b c) = gcons (gnum 10) (gcons (use_kind_code a) (gcons (span_code b) (gcons (identifier_code c) gnil)))
  expression_code (FieldExpression a b) = gcons (gnum 11) (gcons (expression_code a) (gcons (identifier_code b) (gcons gnil gnil)))
  expression_code (LiteralExpression a) = gcons (gnum 12) (gcons (literal_code a) (gcons gnil (gcons gnil gnil)))
  expression_code (PathExpression a) = gcons (gnum 13) (gcons (path_code a) (gcons gnil (gcons gnil gnil)))
  expression_code (CallExpression a b c d) = gcons (gnum 14) (gcons (path_code a) (gcons (maybe_arguments_code b) (gcons (expressions_code c) (bool_code d))))
  expression_code (PackExpression a b c d) = gcons (gnum 15) (gcons (path_code a) (gcons (maybe_arguments_code b) (gcons (field_values_code c) (bool_code d))))
  expression_code (VectorExpression a b c d) = gcons (gnum 16) (gcons (span_code a) (gcons (maybe_arguments_code b) (gcons (expressions_code c) (bool_code d))))
  expression_code (AssertExpression a b c) = gcons (gnum 17) (gcons (span_code a) (gcons (expression_code b) (gcons (expression_code c) gnil)))
  expression_code (TupleExpression a b c) = gcons (gnum 18) (gcons (span_code a) (gcons (expressions_code b) (gcons (bool_code c) gnil)))
  expression_code (CastExpression a b c) = gcons (gnum 19) (gcons (span_code a) (gcons (expression_code b) (gcons (source_type_code c) gnil)))
  expression_code (BlockExpression a) = gcons (gnum 20) (gcons (block_code a) (gcons gnil (gcons gnil gnil)))

  pub maybe_expression_code : MaybeExpressionData → Gv
  maybe_expression_code NoExpression = gcons (gnum 0) gnil
  maybe_expression_code (SomeExpression a) = gcons (gnum 1) (expression_code a)

  pub block_code : BlockData → Gv
  block_code (BlockOf a b c d) = gcons (gnum 0) (gcons (span_code a) (gcons (maybe_kept_spec_code b) (gcons (items_code c) (maybe_expression_code d))))

  pub item_code : ItemData → Gv
  item_code (ExpressionItem a) = gcons (gnum 0) (gcons (expression_code a) (gcons gnil (gcons gnil gnil)))
  item_code (LetItem a b c d) = gcons (gnum 1) (gcons (span_code a) (gcons (pattern_code b) (gcons (maybe_source_type_code c) (maybe_expression_code d))))

  pub field_value_code : FieldValueData → Gv
  field_value_code (ShortFieldValue a) = gcons (gnum 0) (gcons (identifier_code a) gnil)
  field_value_code (LongFieldValue a b) = gcons (gnum 1) (gcons (identifier_code a) (expression_code b))

  pub expressions_code : ExpressionsData → Gv
  expressions_code NoExpressions = gnil
  expressions_code (MoreExpressions a b) = gcons (expression_code a) (expressions_code b)

  pub items_code : ItemsData → Gv
  items_code NoItems = gnil
  items_code (MoreItems a b) = gcons (item_code a) (items_code b)

  pub field_values_code : FieldValuesData → Gv
  field_values_code NoFieldValues = gnil
  field_values_code (MoreFieldValues a b) = gcons (field_value_code a) (field_values_code b)

abbrev mutual
  pub expression_back : Gv → ExpressionData
  expression_back (gcons (gnum n) (gcons a (gcons b (gcons c d)))) =
      pick n (BreakExpression (span_back gnil)) (BinaryExpression (expression_back a) (binary_operator_back b) (span_back c) (expression_back d) ∷ AssignExpression (expression_back a) (span_back b) (expression_back c) ∷ IfExpression (span_back a) (expression_back b) (expression_back c) (maybe_expression_back d) ∷ WhileExpression (span_back a) (expression_back b) (expression_back c) ∷ LoopExpression (span_back a) (expression_back b) ∷ ReturnExpression (span_back a) (maybe_expression_back b) ∷ AbortExpression (span_back a) (expression_back b) ∷ BreakExpression (span_back a) ∷ ContinueExpression (span_back a) ∷ UnaryExpression (unary_operator_back a) (span_back b) (expression_back c) ∷ UseExpression (use_kind_back a) (span_back b) (identifier_back c) ∷ FieldExpression (expression_back a) (identifier_back b) ∷ LiteralExpression (literal_back a) ∷ PathExpression (path_back a) ∷ CallExpression (path_back a) (maybe_arguments_back b) (expressions_back c) (bool_back d) ∷ PackExpression (path_back a) (maybe_arguments_back b) (field_values_back c) (bool_back d) ∷ VectorExpression (span_back a) (maybe_arguments_back b) (expressions_back c) (bool_back d) ∷ AssertExpression (span_back a) (expression_back b) (expression_back c) ∷ TupleExpression (span_back a) (expressions_back b) (bool_back c) ∷ CastExpression (span_back a) (expression_back b) (source_type_back c) ∷ BlockExpression (block_back a) ∷ [])
  expression_back _ = BreakExpression (span_back gnil)

  pub maybe_expression_back : Gv → MaybeExpressionData
  maybe_expression_back (gcons (gnum n) a) =
      pick n NoExpression (NoExpression ∷ SomeExpression (expression_back a) ∷ [])
  maybe_expression_back _ = NoExpression

  pub block_back : Gv → BlockData
  block_back (gcons (gnum n) (gcons a (gcons b (gcons c d)))) =
      pick n (BlockOf (span_back gnil) None NoItems NoExpression) (BlockOf (span_back a) (maybe_kept_spec_back b) (items_back c) (maybe_expression_back d) ∷ [])
  block_back _ = BlockOf (span_back gnil) None NoItems NoExpression

  pub item_back : Gv → ItemData
  item_back (gcons (gnum n) (gcons a (gcons b (gcons c d)))) =
      pick n (ExpressionItem (BreakExpression (span_back gnil))) (ExpressionItem (expression_back a) ∷ LetItem (span_back a) (pattern_back b) (maybe_source_type_back c) (maybe_expression_back d) ∷ [])
  item_back _ = ExpressionItem (BreakExpression (span_back gnil))

  pub field_value_back : Gv → FieldValueData
  field_value_back (gcons (gnum n) (gcons a b)) =
      pick n (ShortFieldValue (identifier_back gnil)) (ShortFieldValue (identifier_back a) ∷ LongFieldValue (identifier_back a) (expression_back b) ∷ [])
  field_value_back _ = ShortFieldValue (identifier_back gnil)

  pub expressions_back : Gv → ExpressionsData
  expressions_back gnil = NoExpressions
  expressions_back (gnum n) = NoExpressions
  expressions_back (gcons a b) = MoreExpressions (expression_back a) (expressions_back b)

  pub items_back : Gv → ItemsData
  items_back gnil = NoItems
  items_back (gnum n) = NoItems
  items_back (gcons a b) = MoreItems (item_back a) (items_back b)

  pub field_values_back : Gv → FieldValuesData
  field_values_back gnil = NoFieldValues
  field_values_back (gnum n) = NoFieldValues
  field_values_back (gcons a b) = MoreFieldValues (field_value_back a) (field_values_back b)

mutual
  pub expression_back-code : (x : ExpressionData) → expression_back (expression_code x) ≡ x
  expression_back-code (BinaryExpression a b c d) = λ i. BinaryExpression (expression_back-code a i) (binary_operator_back-code b i) (span_back-code c i) (expression_back-code d i)
  expression_back-code (AssignExpression a b c) = λ i. AssignExpression (expression_back-code a i) (span_back-code b i) (expression_back-code c i)
  expression_back-code (IfExpression a b c d) = λ i. IfExpression (span_back-code a i) (expression_back-code b i) (expression_back-code c i) (maybe_expression_back-code d i)
  expression_back-code (WhileExpression a b c) = λ i. WhileExpression (span_back-code a i) (expression_back-code b i) (expression_back-code c i)
  expression_back-code (LoopExpression a b) = λ i. LoopExpression (span_back-code a i) (expression_back-code b i)
  expression_back-code (ReturnExpression a b) = λ i. ReturnExpression (span_back-code a i) (maybe_expression_back-code b i)
  expression_back-code (AbortExpression a b) = λ i. AbortExpression (span_back-code a i) (expression_back-code b i)
  expression_back-code (BreakExpression a) = λ i. BreakExpression (span_back-code a i)
  expression_back-code (ContinueExpression a) = λ i. ContinueExpression (span_back-code a i)
  expression_back-code (UnaryExpression a b c) = λ i. UnaryExpression (unary_operator_back-code a i) (span_back-code b i) (expression_back-code c i)
  expression_back-code (UseExpression a b c) = λ i. UseExpression (use_kind_back-code a i) (span_back-code b i) (identifier_back-code c i)
  expression_back-code (FieldExpression a b) = λ i. FieldExpression (expression_back-code a i) (identifier_back-code b i)
  expression_back-code (LiteralExpression a) = λ i. LiteralExpression (literal_back-code a i)
  expression_back-code (PathExpression a) = λ i. PathExpression (path_back-code a i)
  expression_back-code (CallExpression a b c d) = λ i. CallExpression (path_back-code a i) (maybe_arguments_back-code b i) (expressions_back-code c i) (bool_back-code d i)
  expression_back-code (PackExpression a b c d) = λ i. PackExpression (path_back-code a i) (maybe_arguments_back-code b i) (field_values_back-code c i) (bool_back-code d i)
  expression_back-code (VectorExpression a b c d) = λ i. VectorExpression (span_back-code a i) (maybe_arguments_back-code b i) (expressions_back-code c i) (bool_back-code d i)
  expression_back-code (AssertExpression a b c) = λ i. AssertExpression (span_back-code a i) (expression_back-code b i) (expression_back-code c i)
  expression_back-code (TupleExpression a b c) = λ i. TupleExpression (span_back-code a i) (expressions_back-code b i) (bool_back-code c i)
  expression_back-code (CastExpression a b c) = λ i. CastExpression (span_back-code a i) (expression_back-code b i) (source_type_back-code c i)
  expression_back-code (BlockExpression a) = λ i. BlockExpression (block_back-code a i)

  pub maybe_expression_back-code : (x : MaybeExpressionData) → maybe_expression_back (maybe_expression_code x) ≡ x
  maybe_expression_back-code NoExpression = refl
  maybe_expression_back-code (SomeExpression a) = λ i. SomeExpression (expression_back-code a i)

  pub block_back-code : (x : BlockData) → block_back (block_code x) ≡ x
  block_back-code (BlockOf a b c d) = λ i. BlockOf (span_back-code a i) (maybe_kept_spec_back-code b i) (items_back-code c i) (maybe_expression_back-code d i)

  pub item_back-code : (x : ItemData) → item_back (item_code x) ≡ x
  item_back-code (ExpressionItem a) = λ i. ExpressionItem (expression_back-code a i)
  item_back-code (LetItem a b c d) = λ i. LetItem (span_back-code a i) (pattern_back-code b i) (maybe_source_type_back-code c i) (maybe_expression_back-code d i)

  pub field_value_back-code : (x : FieldValueData) → field_value_back (field_value_code x) ≡ x
  field_value_back-code (ShortFieldValue a) = λ i. ShortFieldValue (identifier_back-code a i)
  field_value_back-code (LongFieldValue a b) = λ i. LongFieldValue (identifier_back-code a i) (expression_back-code b i)

  pub expressions_back-code : (x : ExpressionsData) → expressions_back (expressions_code x) ≡ x
  expressions_back-code NoExpressions = refl
  expressions_back-code (MoreExpressions a b) = λ i. MoreExpressions (expression_back-code a i) (expressions_back-code b i)

  pub items_back-code : (x : ItemsData) → items_back (items_code x) ≡ x
  items_back-code NoItems = refl
  items_back-code (MoreItems a b) = λ i. MoreItems (item_back-code a i) (items_back-code b i)

  pub field_values_back-code : (x : FieldValuesData) → field_values_back (field_values_code x) ≡ x
  field_values_back-code NoFieldValues = refl
  field_values_back-code (MoreFieldValues a b) = λ i. MoreFieldValues (field_value_back-code a i) (field_values_back-code b i)

abbrev pub coded_expression : Coded ExpressionData
coded_expression = code_by Gv itself expression_code expression_back expression_back-code

abbrev pub coded_block : Coded BlockData
coded_block = code_by Gv itself block_code block_back block_back-code

abbrev pub coded_item : Coded ItemData
coded_item = code_by Gv itself item_code item_back item_back-code

abbrev pub coded_field_value : Coded FieldValueData
coded_field_value = code_by Gv itself field_value_code field_value_back field_value_back-code
