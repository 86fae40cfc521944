-- Duplicate declarations. Source: The Move Book, "Modules and Scripts", "Uses and Aliases", "Functions" and "Structs".
use Rattle.std.specs.Prelude.{ℕ, Bool, true, not, ◌&&◌, List, [], ◌∷◌, ◌++◌, map, Option, Some, None, if◌then◌else◌}
use Rattle.std.specs.List.{list_any, flat_map}
use Rattle.base.specs.Names.{same_name}
use Rattle.syntax_tree.specs.MemberData.{TypeParametersData, TypedNamesData}
use Rattle.syntax_tree.specs.declared.clause.Spec.{Spec as SpecTree}
use Rattle.syntax_tree.specs.declared.clause.Spec.TheVariants.{Module as module_spec, Named as named_spec, Schema as schema_spec, Function as function_spec, Loop as loop_spec}
use Rattle.syntax_tree.specs.declared.source.SourceForm.{SourceForm}
use Rattle.syntax_tree.specs.declared.source.SourceForm.TheVariants.{Use, Friend, Struct, Constant, Function, Spec}
use Rattle.syntax_tree.specs.SourceData.{SourceMemberData}
use Rattle.syntax_tree.specs.Spans.{form_span}
use Rattle.scopes.specs.declared.member.NameOfKind.{NameOfKind}
use Rattle.scopes.specs.MemberNames.{same_name_of_kind}
use Rattle.scopes.specs.EnvironmentData.{EnvironmentData}
use Rattle.scopes.specs.Brings.{form_modules, form_members, member_modules, member_members}

-- the items are pairwise different, and differ from those of the first list
abbrev pub are_new : {A : Type 0} → (A → A → Bool) → List A → List A → Bool
are_new same before [] = true
are_new same before (x ∷ xs) = not (list_any (same x) before) && are_new same (before ++ x ∷ []) xs

abbrev pub all_differ : List (List ℕ) → Bool
all_differ names = are_new same_name [] names

-- ---- names of one owner

abbrev pub type_names : Option TypeParametersData → List (List ℕ)
type_names None = []
type_names (Some parameters) = map (λ p. p.name.text) parameters.items

abbrev pub typed_names : TypedNamesData → List (List ℕ)
typed_names names = map (λ n. n.name.text) names.items

abbrev pub owner_differs : Option TypeParametersData → TypedNamesData → Bool
owner_differs types names = all_differ (type_names types) && all_differ (typed_names names)

-- the variables of a schema may share a name: the later one counts
abbrev pub spec_differs : SpecTree → Bool
spec_differs (module_spec span clauses) = true
spec_differs (named_spec span name clauses) = true
spec_differs (schema_spec s) = all_differ (type_names s.parameters)
spec_differs (function_spec f) = owner_differs f.parameters f.inputs
spec_differs (loop_spec span clauses) = true

-- the member has no two type parameters, and no two fields or parameters, of the same name
abbrev pub form_differs : SourceForm → Bool
form_differs (Use u) = true
form_differs (Friend f) = true
form_differs (Struct s) = owner_differs s.parameters s.fields
form_differs (Constant c) = true
form_differs (Function f) = owner_differs f.parameters f.inputs
form_differs (Spec s) = spec_differs s

-- ---- members of one module

abbrev pub name_of : {K V : Type 0} → K × V → K
name_of entry = entry.0

-- the names that members give to modules
abbrev pub modules_named : EnvironmentData → List SourceMemberData → List (List ℕ)
modules_named env members = map name_of (flat_map (member_modules env) members)

-- the names that they give to members of modules
abbrev pub members_named : EnvironmentData → List SourceMemberData → List NameOfKind
members_named env members = map name_of (flat_map (member_members env) members)

-- given these names, the member declares nothing a second time
abbrev pub declares_behind : EnvironmentData → List (List ℕ) → List NameOfKind → SourceForm → Bool
declares_behind env modules members form =
    form_differs form
    && (are_new same_name modules (map name_of (form_modules env form))
    && are_new same_name_of_kind members (map name_of (form_members env form)))

-- the byte offset of the first token of the first member, after others, that declares something a second time
abbrev pub first_twice : EnvironmentData → List SourceMemberData → List SourceMemberData → Option ℕ
first_twice env before [] = None
first_twice env before (m ∷ ms) =
    if declares_behind env (modules_named env before) (members_named env before) m.form then first_twice env (before ++ m ∷ []) ms
    else Some (form_span m.form).start
