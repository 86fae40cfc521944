-- The names that the members of a module bring into scope: what they declare, and what a `use` imports. Source: The
-- Move Book, "Uses and Aliases".
use Rattle.std.specs.Prelude.{ℕ, Bool, List, [], ◌∷◌, map, fold, codes, Option, Some, None, if◌then◌else◌}
use Rattle.std.specs.List.{flat_map}
use Rattle.base.specs.Names.{same_name}
use Rattle.syntax_tree.specs.declared.lexeme.Identifier.{Identifier}
use Rattle.syntax_tree.specs.declared.member.Import.{Import}
use Rattle.syntax_tree.specs.declared.member.Imported.{Imported}
use Rattle.syntax_tree.specs.declared.member.Imported.TheVariants.{Module, One, Several}
use Rattle.syntax_tree.specs.declared.source.SourceForm.{SourceForm}
use Rattle.syntax_tree.specs.declared.source.SourceForm.TheVariants.{Use}
use Rattle.program.specs.declared.program.ModuleId.{ModuleId}
use Rattle.scopes.specs.declared.member.MemberKind.{MemberKind}
use Rattle.scopes.specs.declared.member.MemberKind.TheVariants.{Struct as a_struct, Constant as a_constant, Function as a_function, SpecFunction as a_spec_function, Schema as a_schema}
use Rattle.scopes.specs.declared.member.MemberId.{MemberId}
use Rattle.scopes.specs.declared.member.NameOfKind.{NameOfKind}
use Rattle.syntax_tree.specs.SourceData.{SourceMemberData}
use Rattle.scopes.specs.MemberNames.{first_stays, same_name_of_kind}
use Rattle.scopes.specs.EnvironmentData.{EnvironmentData}
use Rattle.scopes.specs.Meanings.{module_meaning, declared_meaning}
use Rattle.scopes.specs.Declares.{form_declares, listed}

-- ---- `use`

-- the name of an import in this module
abbrev pub name_here : List ℕ → Option Identifier → List ℕ
name_here name None = name
name_here name (Some alias) = alias.text

-- the names of the module: its own or its alias, and those of `Self` among the imports
abbrev pub module_name_of : List ℕ → Import → List (List ℕ)
module_name_of name import = if same_name import.name.text (codes "Self") then name_here name import.alias ∷ [] else []

abbrev pub module_names : List ℕ → Imported → List (List ℕ)
module_names name (Module alias) = name_here name alias ∷ []
module_names name (One import) = module_name_of name import
module_names name (Several imports) = flat_map (module_name_of name) imports.items

abbrev pub with_owner : Option ModuleId → List (List ℕ) → List (List ℕ × ModuleId)
with_owner None names = []
with_owner (Some owner) names = map (λ name. (name, owner)) names

abbrev pub all_kinds : List MemberKind
all_kinds = a_struct ∷ a_constant ∷ a_function ∷ a_spec_function ∷ a_schema ∷ []

abbrev pub named_for : List ℕ → MemberKind → Option MemberId → List (NameOfKind × MemberId)
named_for name kind None = []
named_for name kind (Some member) = (record { kind = kind; name = name }, member) ∷ []

abbrev pub brings_of_kind : EnvironmentData → ModuleId → Import → MemberKind → List (NameOfKind × MemberId)
brings_of_kind env owner import kind =
    named_for (name_here import.name.text import.alias) kind (declared_meaning env kind owner import.name.text)

-- the members that an import brings in: those with its name, one for each kind that the module declares
abbrev pub import_brings : EnvironmentData → ModuleId → Import → List (NameOfKind × MemberId)
import_brings env owner import =
    flat_map (brings_of_kind env owner import) all_kinds

abbrev pub imported_brings : EnvironmentData → ModuleId → Imported → List (NameOfKind × MemberId)
imported_brings env owner (Module alias) = []
imported_brings env owner (One import) = import_brings env owner import
imported_brings env owner (Several imports) = flat_map (import_brings env owner) imports.items

abbrev pub use_brings : EnvironmentData → Option ModuleId → Imported → List (NameOfKind × MemberId)
use_brings env None imported = []
use_brings env (Some owner) imported = imported_brings env owner imported

-- ---- members

-- the names that a member gives to modules
abbrev pub form_modules : EnvironmentData → SourceForm → List (List ℕ × ModuleId)
form_modules env (Use u) = with_owner (module_meaning env u.owner) (module_names u.owner.name.text u.imported)
form_modules env _ = []

abbrev pub named_itself : ModuleId → NameOfKind → NameOfKind × MemberId
named_itself own n = (n, record { owner = own; name = n.name })

-- the names that it gives to members of modules
abbrev pub form_members : EnvironmentData → SourceForm → List (NameOfKind × MemberId)
form_members env (Use u) = use_brings env (module_meaning env u.owner) u.imported
form_members env form = map (named_itself env.own) (listed (form_declares form))

abbrev pub member_modules : EnvironmentData → SourceMemberData → List (List ℕ × ModuleId)
member_modules env m = form_modules env m.form

abbrev pub member_members : EnvironmentData → SourceMemberData → List (NameOfKind × MemberId)
member_members env m = form_members env m.form

-- ---- modules

-- each name keeps its first meaning
abbrev pub firsts : {K V : Type 0} → (K → K → Bool) → List (K × V) → List (K × V) → List (K × V)
firsts same entries more = fold (λ es e. first_stays same es e.0 e.1) entries more

-- the meaning of names in a module with these members
abbrev pub environment_of : EnvironmentData → List SourceMemberData → EnvironmentData
environment_of env members = record {
  addresses = env.addresses;
  declared = env.declared;
  own = env.own;
  modules = firsts same_name [] (flat_map (member_modules env) members);
  names = firsts same_name_of_kind [] (flat_map (member_members env) members);
}
