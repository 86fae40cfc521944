-- The tree of a spec block that a file keeps as tokens, and the members and modules with such trees. Source: The Move
-- Book, "Modules and Scripts"; the Move Specification Language reference, "Spec Blocks and Conditions".
use Rattle.std.specs.Prelude.{◌≡◌, ℕ, List}
use Rattle.syntax_tree.specs.FileData.{MemberData, ModuleData}
use Rattle.syntax_tree.specs.declared.member.MemberForm.{MemberForm}
use Rattle.syntax_tree.specs.declared.member.MemberForm.TheVariants.{Use as kept_use, Friend as kept_friend, Struct as kept_struct, Constant as kept_constant, Function as kept_function, Spec as kept_spec}
use Rattle.syntax_tree.specs.declared.spec_tokens.KeptSpec.{KeptSpec}
use Rattle.syntax_tree.specs.declared.slot.Slot.{Slot}
use Rattle.syntax_tree.specs.declared.clause.Spec.{Spec as SpecTree}
use Rattle.syntax_tree.specs.DenotedClauses.{IsSpecBlockOf}
use Rattle.syntax_tree.specs.declared.source.SourceForm.{SourceForm}
use Rattle.syntax_tree.specs.declared.source.SourceForm.TheVariants.{Use, Friend, Struct, Constant, Function, Spec}
use Rattle.syntax_tree.specs.SourceData.{SourceMemberData}
use Rattle.syntax_tree.specs.SourceModuleData.{SourceModuleData}
use Rattle.syntax_tree.specs.SourceSlots.{IsSlotOf}
use Rattle.syntax_tree.specs.FunctionNames.{function_names}
use Rattle.syntax_tree.specs.Loops.{loop_specs, IsLoopTree}
use Rattle.base.specs.Pairs.{Paired}

-- in a module with functions of these names, the tree is of a kind for which the tokens of the block denote it
pub record IsSpecOf (functions : List (List ℕ)) (block : KeptSpec) (tree : SpecTree) : Type 0 where
  pub slot : Slot
  pub slot_is : IsSlotOf functions tree slot
  pub denoted : IsSpecBlockOf slot tree block.tokens

-- a spec block becomes its tree, and each other member is unchanged
abbrev pub IsSourceForm : List (List ℕ) → MemberForm → SourceForm → Type 0
IsSourceForm functions (kept_use u) found = found ≡ Use u
IsSourceForm functions (kept_friend f) found = found ≡ Friend f
IsSourceForm functions (kept_struct s) found = found ≡ Struct s
IsSourceForm functions (kept_constant c) found = found ≡ Constant c
IsSourceForm functions (kept_function f) found = found ≡ Function f
IsSourceForm functions (kept_spec b) found = (tree : SpecTree) × (found ≡ Spec tree) × IsSpecOf functions b tree

pub record IsSourceMember (functions : List (List ℕ)) (member : MemberData) (found : SourceMemberData) : Type 0 where
  pub attributes : found.attributes ≡ member.attributes
  pub form : IsSourceForm functions member.form found.form
  pub loops : Paired IsLoopTree (loop_specs member.form) found.loops

pub record IsSourceModule (m : ModuleData) (found : SourceModuleData) : Type 0 where
  pub attributes : found.attributes ≡ m.attributes
  pub span : found.span ≡ m.span
  pub name : found.name ≡ m.name
  pub members : Paired (IsSourceMember (function_names m.members)) m.members found.members
