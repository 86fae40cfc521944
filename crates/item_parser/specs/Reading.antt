-- What the failure of the reader of modules means.
use Rattle.std.specs.Prelude.{ℕ, Bool, List, [], ◌∷◌}
use Rattle.tokens.specs.declared.token.Token.{Token}
use Rattle.syntax_tree.specs.FileData.{MemberData, ModuleData}
use Rattle.syntax_tree.specs.declared.member.MemberForm.{MemberForm}
use Rattle.syntax_tree.specs.declared.spec_tokens.KeptSpec.{KeptSpec}
use Rattle.syntax_tree.specs.declared.slot.Slot.{Slot}
use Rattle.syntax_tree.specs.declared.slot.Slot.TheVariants.{Function}
use Rattle.syntax_tree.specs.declared.clause.Spec.{Spec as SpecTree}
use Rattle.syntax_tree.specs.declared.source.SourceForm.{SourceForm}
use Rattle.syntax_tree.specs.SourceData.{SourceMemberData}
use Rattle.syntax_tree.specs.SourceModuleData.{SourceModuleData}
use Rattle.base.specs.Names.{has}
use Rattle.syntax_tree.specs.Loops.{IsLoopTree}
use Rattle.syntax_tree.specs.Members.{IsSpecOf, IsSourceForm, IsSourceMember, IsSourceModule}
use Rattle.base.specs.Pairs.{Paired}
use Rattle.item_parser.specs.SlotReading.{slot_at}
use Rattle.std.specs.BTreeSet.{BTreeSet}

-- the slot of a block by its tokens, the first of which is its word, and by a test for the names of functions
abbrev pub slot_by : (List ℕ → Bool) → List Token → Slot
slot_by is_function [] = Function
slot_by is_function (t ∷ ts) = slot_at is_function ts

abbrev pub slot_of_block : BTreeSet (List ℕ) → List Token → Slot
slot_of_block functions tokens = slot_by (has functions) tokens

abbrev pub HasNoTree : List (List ℕ) → KeptSpec → Type 0
HasNoTree functions block = (tree : SpecTree) → IsSpecOf functions block tree → ⊥

abbrev pub HasNoLoopTree : KeptSpec → Type 0
HasNoLoopTree spec = (tree : SpecTree) → IsLoopTree spec tree → ⊥

abbrev pub HaveNoLoopTrees : List KeptSpec → Type 0
HaveNoLoopTrees specs = (trees : List SpecTree) → Paired IsLoopTree specs trees → ⊥

abbrev pub HasNoForm : List (List ℕ) → MemberForm → Type 0
HasNoForm functions form = (found : SourceForm) → IsSourceForm functions form found → ⊥

abbrev pub HasNoMember : List (List ℕ) → MemberData → Type 0
HasNoMember functions member = (found : SourceMemberData) → IsSourceMember functions member found → ⊥

abbrev pub HaveNoMembers : List (List ℕ) → List MemberData → Type 0
HaveNoMembers functions members = (found : List SourceMemberData) → Paired (IsSourceMember functions) members found → ⊥

abbrev pub IsOfNoModule : ModuleData → Type 0
IsOfNoModule m = (found : SourceModuleData) → IsSourceModule m found → ⊥

abbrev pub AreOfNoModules : List ModuleData → Type 0
AreOfNoModules modules = (found : List SourceModuleData) → Paired IsSourceModule modules found → ⊥
