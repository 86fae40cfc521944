-- The meaning of words and signs in spec expressions. Source: the Move Specification Language reference, "Expressions",
-- "Builtin Functions" and "Type System"; The Move Book, "Structs" and "Constants".
use Rattle.std.specs.Prelude.{ℕ, List, [], ◌∷◌, codes, Option, Some, None, option_and_then}
use Rattle.std.specs.Option.{option_map, option_or}
use Rattle.base.specs.declared.types.Width.{Width}
use Rattle.base.specs.declared.types.Width.TheVariants.{U8 as width_8, U16 as width_16, U32 as width_32, U64 as width_64, U128 as width_128}
use Rattle.base.specs.TypeData.{TypeData, NoTypes}
use Rattle.syntax_tree.specs.declared.literal.Literal.{Literal}
use Rattle.syntax_tree.specs.declared.literal.Literal.TheVariants.{Number as number_literal, Truth as truth_literal, Address as address_literal}
use Rattle.syntax_tree.specs.declared.spec_expression.operator.SpecOperator.{SpecOperator as SpecSign}
use Rattle.syntax_tree.specs.declared.spec_expression.operator.SpecOperator.TheVariants.{Equivalent as equivalent_sign, Implies as implies_sign, Range as range_sign, Common as common_sign}
use Rattle.syntax_tree.specs.declared.spec_expression.operator.Quantifier.{Quantifier as QuantifierWord}
use Rattle.syntax_tree.specs.declared.spec_expression.operator.Quantifier.TheVariants.{ForAll as forall_word, Exists as exists_word}
use Rattle.syntax_tree.specs.declared.path.Path.{Path}
use Rattle.syntax_tree.specs.declared.path.Path.TheVariants.{Name as name_path, Member as member_path, Full as full_path}
use Rattle.syntax_tree.specs.TypeTreeData.{SourceTypeData, MaybeArgumentsData}
use Rattle.program.specs.Trees.{Tree, LeafTree, ManyTree, BadTree, Trees, NoTrees, MoreTrees}
use Rattle.program.specs.declared.operator.SpecOperator.{SpecOperator}
use Rattle.program.specs.declared.operator.SpecOperator.TheVariants.{Common, Implies, Equivalent, Range}
use Rattle.program.specs.declared.operator.Quantifier.{Quantifier}
use Rattle.program.specs.declared.operator.Quantifier.TheVariants.{ForAll, Exists}
use Rattle.program.specs.declared.spec.SpecName.TheVariants.{Quantified as quantified_name}
use Rattle.program.specs.declared.spec.SpecLeaf.{SpecLeaf}
use Rattle.program.specs.declared.spec.SpecLeaf.TheVariants.{Number, Truth, Address, Name, Constant, Max}
use Rattle.program.specs.declared.spec.SpecUnary.{SpecUnary}
use Rattle.program.specs.declared.spec.SpecBinary.{SpecBinary}
use Rattle.program.specs.declared.spec.SpecMany.{SpecMany}
use Rattle.program.specs.declared.spec.SpecMany.TheVariants.{Call}
use Rattle.scopes.specs.declared.scope.InScope.{InScope}
use Rattle.scopes.specs.Builtins.{beside}
use Rattle.scopes.specs.Scopes.{innermost}
use Rattle.scopes.specs.Meanings.{constant_meaning, spec_callee_meaning, address_meaning, word_meaning}
use Rattle.scopes.specs.TypeMeanings.{TypeScope, type_meaning, arguments_meaning, misapplied, or_type}
use Rattle.body_names.specs.declared.spec.outer.OuterName.{OuterName}
use Rattle.body_names.specs.OuterNames.{outer_meaning}
use Rattle.body_names.specs.SharedWords.{number_meaning, operator_of}

-- the context of a spec expression: that for the meaning of types, and the names around it, the innermost last
pub record SpecScope : Type 0 where
  pub types : TypeScope
  pub outer : List OuterName

-- ---- trees of spec expressions

abbrev pub SpecTree : Type 0
SpecTree = Tree SpecLeaf SpecUnary SpecBinary SpecMany

abbrev pub SpecTrees : Type 0
SpecTrees = Trees SpecLeaf SpecUnary SpecBinary SpecMany

-- the tree of a form with a meaning, or a bad tree if it has none

abbrev pub leaf_tree : Option SpecLeaf → SpecTree
leaf_tree None = BadTree
leaf_tree (Some l) = LeafTree l

abbrev pub many_tree : Option SpecMany → SpecTrees → SpecTree
many_tree None ts = BadTree
many_tree (Some m) ts = ManyTree m ts

-- ---- operators

abbrev pub spec_operator_of : SpecSign → SpecOperator
spec_operator_of equivalent_sign = Equivalent
spec_operator_of implies_sign = Implies
spec_operator_of range_sign = Range
spec_operator_of (common_sign operator) = Common (operator_of operator)

abbrev pub quantifier_of : QuantifierWord → Quantifier
quantifier_of forall_word = ForAll
quantifier_of exists_word = Exists

-- ---- forms without children

unfoldable pub literal_meaning : TypeScope → Literal → Option SpecLeaf
literal_meaning w (number_literal n) = option_map Number (number_meaning n.literal)
literal_meaning w (truth_literal span value) = Some (Truth value)
literal_meaning w (address_literal span address) = option_map Address (address_meaning w.environment address)

-- the greatest value of an integer type
abbrev pub greatest_values : List (List ℕ × Width)
greatest_values =
    (codes "MAX_U8", width_8) ∷ (codes "MAX_U16", width_16) ∷ (codes "MAX_U32", width_32) ∷ (codes "MAX_U64", width_64)
    ∷ (codes "MAX_U128", width_128) ∷ []

abbrev pub greatest_value : List ℕ → Option Width
greatest_value = beside greatest_values

-- the innermost quantifier variable, or else the meaning around the expression
abbrev pub name_meaning : List OuterName → List InScope → List ℕ → Option SpecLeaf
name_meaning outer scope name =
    option_or (option_map (λ n. Name (quantified_name n)) (innermost scope name)) (option_map (λ m. Name m) (outer_meaning outer name))

-- a constant, or else the greatest value of a type
abbrev pub constant_leaf : TypeScope → Path → Option SpecLeaf
constant_leaf w path =
    option_or (option_map Constant (constant_meaning w.environment path)) (option_map Max (word_meaning greatest_value path))

-- the meaning of a path as a value; after a module it is a constant
unfoldable pub value_meaning : SpecScope → List InScope → Path → Option SpecLeaf
value_meaning w scope (name_path name) = option_or (name_meaning w.outer scope name.text) (constant_leaf w.types (name_path name))
value_meaning w scope (member_path owner name) = constant_leaf w.types (member_path owner name)
value_meaning w scope (full_path owner name) = constant_leaf w.types (full_path owner name)

-- ---- the types of variables

-- the type; if it has no meaning, one that no typing rule allows, with a bad tree beside it
unfoldable pub domain_type : TypeScope → SourceTypeData → TypeData
domain_type w t = or_type (type_meaning w t) (misapplied NoTypes)

abbrev pub bad_unless : Option TypeData → SpecTrees
bad_unless None = MoreTrees BadTree NoTrees
bad_unless (Some t) = NoTrees

-- no tree, or a bad one if the type has no meaning
unfoldable pub domain_trees : TypeScope → SourceTypeData → SpecTrees
domain_trees w t = bad_unless (type_meaning w t)

-- ---- forms with a list of children

-- a call never means a name around an expression or a variable bound in it
unfoldable pub call_meaning : TypeScope → Path → MaybeArgumentsData → Option SpecMany
call_meaning w path arguments =
    option_and_then (λ callee. option_map (λ types. Call (record { callee = callee; types = types })) (arguments_meaning w arguments))
    (spec_callee_meaning w.environment path)
