-- The declarations of members and modules. Source: The Move Book, "Modules and Scripts"; the Move Specification
-- Language reference, "Spec Blocks and Conditions".
use Rattle.std.specs.Prelude.{ℕ, List, [], ◌∷◌, map, Option, Some, None}
use Rattle.std.specs.List.{flat_map}
use Rattle.syntax_tree.specs.declared.clause.Spec.{Spec as SpecTree}
use Rattle.syntax_tree.specs.declared.clause.Spec.TheVariants.{Module as module_spec, Named as named_spec, Schema as schema_spec, Function as function_spec, Loop as loop_spec}
use Rattle.syntax_tree.specs.declared.source.SourceForm.{SourceForm}
use Rattle.syntax_tree.specs.declared.source.SourceForm.TheVariants.{Use, Friend, Struct, Constant, Function, Spec}
use Rattle.syntax_tree.specs.SourceData.{SourceMemberData}
use Rattle.syntax_tree.specs.SourceModuleData.{SourceModuleData}
use Rattle.program.specs.declared.program.ModuleId.{ModuleId}
use Rattle.scopes.specs.declared.member.MemberKind.{MemberKind}
use Rattle.scopes.specs.declared.member.MemberKind.TheVariants.{Struct as a_struct, Constant as a_constant, Function as a_function, SpecFunction as a_spec_function, Schema as a_schema}
use Rattle.scopes.specs.declared.member.Declaration.{Declaration}
use Rattle.scopes.specs.declared.member.NameOfKind.{NameOfKind}
use Rattle.scopes.specs.EnvironmentData.{EnvironmentData}
use Rattle.scopes.specs.Meanings.{module_meaning}

abbrev pub named : MemberKind → List ℕ → Option NameOfKind
named kind name = Some (record { kind = kind; name = name })

abbrev pub listed : {A : Type 0} → Option A → List A
listed None = []
listed (Some x) = x ∷ []

-- spec blocks declare schemas and spec functions
abbrev pub spec_declares : SpecTree → Option NameOfKind
spec_declares (module_spec span clauses) = None
spec_declares (named_spec span name clauses) = None
spec_declares (schema_spec s) = named a_schema s.name.text
spec_declares (function_spec f) = named a_spec_function f.name.text
spec_declares (loop_spec span clauses) = None

abbrev pub form_declares : SourceForm → Option NameOfKind
form_declares (Use u) = None
form_declares (Friend f) = None
form_declares (Struct s) = named a_struct s.name.text
form_declares (Constant c) = named a_constant c.name.text
form_declares (Function f) = named a_function f.name.text
form_declares (Spec s) = spec_declares s

-- the declaration of a name in a module
abbrev pub declared_as : ModuleId → NameOfKind → Declaration
declared_as owner n = record { kind = n.kind; member = record { owner = owner; name = n.name } }

-- the declarations of a member
abbrev pub member_declares : ModuleId → SourceMemberData → List Declaration
member_declares owner m = map (declared_as owner) (listed (form_declares m.form))

abbrev pub in_module : Option ModuleId → List SourceMemberData → List Declaration
in_module None members = []
in_module (Some owner) members = flat_map (member_declares owner) members

-- the declarations of a module, if its address is known
abbrev pub module_declares : EnvironmentData → SourceModuleData → List Declaration
module_declares env m = in_module (module_meaning env m.name) m.members
