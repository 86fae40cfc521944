-- The meaning of words and signs in Move code. Source: The Move Book, "Primitive Types", "Local Variables and Scope",
-- "References", "Structs", "Functions" and "Constants".
use Rattle.std.specs.Prelude.{ℕ, List, Option, Some, None, option_and_then}
use Rattle.std.specs.Option.{option_map, option_or}
use Rattle.base.specs.TypeData.{TypeData}
use Rattle.syntax_tree.specs.declared.literal.Literal.{Literal}
use Rattle.syntax_tree.specs.declared.literal.Literal.TheVariants.{Number as number_literal, Truth as truth_literal, Address as address_literal}
use Rattle.syntax_tree.specs.declared.operator.UnaryOperator.{UnaryOperator}
use Rattle.syntax_tree.specs.declared.operator.UnaryOperator.TheVariants.{Not as not_sign, Dereference as dereference_sign, Borrow as borrow_sign, BorrowMutable as borrow_mutable_sign}
use Rattle.syntax_tree.specs.declared.operator.UseKind.{UseKind}
use Rattle.syntax_tree.specs.declared.operator.UseKind.TheVariants.{Move as move_word, Copy as copy_word}
use Rattle.syntax_tree.specs.declared.path.Path.{Path}
use Rattle.syntax_tree.specs.declared.path.Path.TheVariants.{Name as name_path, Member as member_path, Full as full_path}
use Rattle.syntax_tree.specs.TypeTreeData.{SourceTypeData, MaybeArgumentsData}
use Rattle.program.specs.Trees.{Tree, LeafTree, UnaryTree, BinaryTree, ManyTree, BadTree, Trees}
use Rattle.program.specs.declared.code.CodeLeaf.{CodeLeaf}
use Rattle.program.specs.declared.code.CodeLeaf.TheVariants.{Number, Truth, Address, Local, Constant}
use Rattle.program.specs.declared.code.LocalUse.{LocalUse}
use Rattle.program.specs.declared.code.LocalUse.TheVariants.{Plain, Move, Copy}
use Rattle.program.specs.declared.code.CodeUnary.{CodeUnary}
use Rattle.program.specs.declared.code.CodeUnary.TheVariants.{Not, Dereference, Borrow, BorrowMutable, Cast, Declare}
use Rattle.program.specs.declared.code.CodeBinary.{CodeBinary}
use Rattle.program.specs.declared.code.CodeBinary.TheVariants.{Let}
use Rattle.program.specs.declared.code.CodeMany.{CodeMany}
use Rattle.program.specs.declared.code.CodeMany.TheVariants.{Call, Vector}
use Rattle.scopes.specs.declared.scope.InScope.{InScope}
use Rattle.scopes.specs.Scopes.{innermost}
use Rattle.scopes.specs.Meanings.{constant_meaning, callee_meaning, address_meaning}
use Rattle.scopes.specs.TypeMeanings.{TypeScope, type_meaning, arguments_meaning}
use Rattle.body_names.specs.SharedWords.{number_meaning}

-- ---- trees of code

abbrev pub CodeTree : Type 0
CodeTree = Tree CodeLeaf CodeUnary CodeBinary CodeMany

abbrev pub CodeTrees : Type 0
CodeTrees = Trees CodeLeaf CodeUnary CodeBinary CodeMany

-- the tree of a form with a meaning, or a bad tree if it has none

abbrev pub leaf_tree : Option CodeLeaf → CodeTree
leaf_tree None = BadTree
leaf_tree (Some l) = LeafTree l

abbrev pub unary_tree : Option CodeUnary → CodeTree → CodeTree
unary_tree None a = BadTree
unary_tree (Some u) a = UnaryTree u a

abbrev pub binary_tree : Option CodeBinary → CodeTree → CodeTree → CodeTree
binary_tree None a b = BadTree
binary_tree (Some o) a b = BinaryTree o a b

abbrev pub many_tree : Option CodeMany → CodeTrees → CodeTree
many_tree None ts = BadTree
many_tree (Some m) ts = ManyTree m ts

-- ---- operators

abbrev pub unary_of : UnaryOperator → CodeUnary
unary_of not_sign = Not
unary_of dereference_sign = Dereference
unary_of borrow_sign = Borrow
unary_of borrow_mutable_sign = BorrowMutable

abbrev pub use_of : UseKind → LocalUse
use_of move_word = Move
use_of copy_word = Copy

-- ---- forms without children

unfoldable pub literal_meaning : TypeScope → Literal → Option CodeLeaf
literal_meaning w (number_literal n) = option_map Number (number_meaning n.literal)
literal_meaning w (truth_literal span value) = Some (Truth value)
literal_meaning w (address_literal span address) = option_map Address (address_meaning w.environment address)

-- the innermost local of this name
abbrev pub local_meaning : LocalUse → List InScope → List ℕ → Option CodeLeaf
local_meaning kind scope name = option_map (Local kind) (innermost scope name)

abbrev pub constant_leaf : TypeScope → Path → Option CodeLeaf
constant_leaf w path = option_map Constant (constant_meaning w.environment path)

-- as a value, a single name means the innermost local of this name, or else the constant; after a module it means a
-- constant
unfoldable pub value_meaning : TypeScope → List InScope → Path → Option CodeLeaf
value_meaning w scope (name_path name) = option_or (local_meaning Plain scope name.text) (constant_leaf w (name_path name))
value_meaning w scope (member_path owner name) = constant_leaf w (member_path owner name)
value_meaning w scope (full_path owner name) = constant_leaf w (full_path owner name)

-- ---- written types

unfoldable pub cast_meaning : TypeScope → SourceTypeData → Option CodeUnary
cast_meaning w target = option_map Cast (type_meaning w target)

-- the type written after a pattern, if there is one
abbrev pub annotation_meaning : TypeScope → Option SourceTypeData → Option (Option TypeData)
annotation_meaning w None = Some None
annotation_meaning w (Some t) = option_map Some (type_meaning w t)

unfoldable pub declare_meaning : TypeScope → Option SourceTypeData → Option CodeUnary
declare_meaning w annotation = option_map Declare (annotation_meaning w annotation)

unfoldable pub let_meaning : TypeScope → Option SourceTypeData → Option CodeBinary
let_meaning w annotation = option_map Let (annotation_meaning w annotation)

-- ---- forms with a list of children

-- a call never means a local
unfoldable pub call_meaning : TypeScope → Path → MaybeArgumentsData → Option CodeMany
call_meaning w path arguments =
    option_and_then (λ callee. option_map (λ types. Call (record { callee = callee; types = types })) (arguments_meaning w arguments))
    (callee_meaning w.environment path)

unfoldable pub vector_meaning : TypeScope → MaybeArgumentsData → Option CodeMany
vector_meaning w arguments = option_map Vector (arguments_meaning w arguments)
