-- The first member of a module that is not built (not of the supported form), and modules whose members are all built.
use Rattle.std.specs.Prelude.{◌≡◌, ◌⊎◌, ℕ, List, [], ◌∷◌, ◌++◌, Option, Some, None}
use Rattle.syntax_tree.specs.declared.clause.Spec.{Spec as SpecTree}
use Rattle.syntax_tree.specs.declared.member.Function.{Function as FunctionTree}
use Rattle.syntax_tree.specs.declared.path.Address.{Address}
use Rattle.syntax_tree.specs.declared.path.Address.TheVariants.{Number, Name}
use Rattle.syntax_tree.specs.SourceData.{SourceMemberData}
use Rattle.syntax_tree.specs.SourceModuleData.{SourceModuleData}
use Rattle.sum_module.specs.declared.member.SumMember.{SumMember}
use Rattle.sum_module.specs.BuiltModuleData.{BuiltModuleData}
use Rattle.sum_module.specs.Members.{IsFunction, IsSpec, IsUnbuilt, AreMembers}
use Rattle.syntax_tree.specs.Spans.{form_span, module_span}

abbrev pub IsNoFunction : List SourceMemberData → FunctionTree → Type 0
IsNoFunction before f = (found : SumMember) → IsFunction before f found → ⊥

abbrev pub IsNoSpec : List SourceMemberData → SpecTree → Type 0
IsNoSpec members tree = (found : SumMember) → IsSpec members tree found → ⊥

-- all members before this one are built, and it is not; it begins at this offset
pub record IsFirstUnbuilt (members : List SourceMemberData) (offset : ℕ) : Type 0 where
  pub before : List SourceMemberData
  pub member : SourceMemberData
  pub behind : List SourceMemberData
  pub parts : members ≡ before ++ member ∷ behind
  pub built : List SumMember
  pub are_built : AreMembers members [] before built
  pub unbuilt : IsUnbuilt members before member.form
  pub offset_is : offset ≡ (form_span member.form).start

-- the address of a module, if it is a number
abbrev pub address_of : Address → Option ℕ
address_of (Number n) = Some n.literal.value
address_of (Name i) = None

-- the module has this address and name, and these are its members, all of them built
pub record IsBuilt (m : SourceModuleData) (found : BuiltModuleData) : Type 0 where
  pub address : address_of m.name.address ≡ Some found.address
  pub name : found.name ≡ m.name.name.text
  pub members : AreMembers m.members [] m.members found.members

-- the module's address is no number, and the module begins at this offset
pub record HasNoNumber (m : SourceModuleData) (offset : ℕ) : Type 0 where
  pub address : address_of m.name.address ≡ None
  pub offset_is : offset ≡ (module_span m).start

-- the module's address is a number, and a member is not built, the first of which begins at this offset
pub record HasUnbuiltMember (m : SourceModuleData) (offset : ℕ) : Type 0 where
  pub address : ℕ
  pub address_is : address_of m.name.address ≡ Some address
  pub first : IsFirstUnbuilt m.members offset

-- the module is not built, and the module or the first member that is not begins at this offset
abbrev pub IsUnbuiltAt : SourceModuleData → ℕ → Type 0
IsUnbuiltAt m offset = HasNoNumber m offset ⊎ HasUnbuiltMember m offset
