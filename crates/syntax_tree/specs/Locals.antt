-- The locals that `let` declares. Source: The Move Book, "Variables".
use Rattle.std.specs.Prelude.{List, [], ◌∷◌, ◌++◌}
use Rattle.std.specs.List.{flat_map}
use Rattle.syntax_tree.specs.declared.lexeme.Identifier.{Identifier}
use Rattle.syntax_tree.specs.PatternData.{PatternData, BindPattern, IgnorePattern, UnpackPattern, TuplePattern, FieldPatternData, ShortFieldPattern, LongFieldPattern, PatternsData, NoPatterns, MorePatterns, FieldPatternsData, NoFieldPatterns, MoreFieldPatterns}
use Rattle.syntax_tree.specs.ExpressionData.{BlockData, BlockOf, ItemData, ExpressionItem, LetItem, ItemsData, NoItems, MoreItems}
use Rattle.syntax_tree.specs.Blocks.{blocks_of_block}

-- the names that a pattern binds, in their order
abbrev mutual
  pub names_of : PatternData → List Identifier
  names_of (BindPattern name) = name ∷ []
  names_of (IgnorePattern span) = []
  names_of (UnpackPattern path types fields last) = names_of_fields fields
  names_of (TuplePattern span items last) = names_of_patterns items

  -- a field without a pattern is bound to a local of its name
  pub names_of_field : FieldPatternData → List Identifier
  names_of_field (ShortFieldPattern name) = name ∷ []
  names_of_field (LongFieldPattern name pattern) = names_of pattern

  pub names_of_patterns : PatternsData → List Identifier
  names_of_patterns NoPatterns = []
  names_of_patterns (MorePatterns one more) = names_of one ++ names_of_patterns more

  pub names_of_fields : FieldPatternsData → List Identifier
  names_of_fields NoFieldPatterns = []
  names_of_fields (MoreFieldPatterns one more) = names_of_field one ++ names_of_fields more

abbrev pub names_of_item : ItemData → List Identifier
names_of_item (ExpressionItem expression) = []
names_of_item (LetItem span pattern annotation value) = names_of pattern

abbrev pub names_of_items : ItemsData → List Identifier
names_of_items NoItems = []
names_of_items (MoreItems one more) = names_of_item one ++ names_of_items more

-- the names that the block's own items declare
abbrev pub names_of_block : BlockData → List Identifier
names_of_block (BlockOf span spec items value) = names_of_items items

-- the names that the `let`s of a body declare, including the blocks in it
abbrev pub locals_of : BlockData → List Identifier
locals_of body = flat_map names_of_block (blocks_of_block body)
