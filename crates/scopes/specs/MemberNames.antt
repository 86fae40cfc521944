-- Equality of the names of members.
use Rattle.std.specs.Prelude.{Bool, true, false, ◌&&◌, ◌==◌, List, [], ◌∷◌, ◌++◌, if◌then◌else◌, is_none}
use Rattle.std.specs.Map.{lookup}
use Rattle.base.specs.Names.{same_name}
use Rattle.program.specs.declared.program.ModuleId.{ModuleId}
use Rattle.scopes.specs.declared.member.MemberKind.{MemberKind}
use Rattle.scopes.specs.declared.member.MemberKind.TheVariants.{Struct, Constant, Function, SpecFunction, Schema}
use Rattle.scopes.specs.declared.member.MemberId.{MemberId}
use Rattle.scopes.specs.declared.member.Declaration.{Declaration}
use Rattle.scopes.specs.declared.member.NameOfKind.{NameOfKind}

abbrev pub same_kind : MemberKind → MemberKind → Bool
same_kind Struct Struct = true
same_kind Constant Constant = true
same_kind Function Function = true
same_kind SpecFunction SpecFunction = true
same_kind Schema Schema = true
same_kind _ _ = false

abbrev pub same_module : ModuleId → ModuleId → Bool
same_module x y = (x.address == y.address) && same_name x.name y.name

abbrev pub same_member : MemberId → MemberId → Bool
same_member x y = same_module x.owner y.owner && same_name x.name y.name

abbrev pub same_declaration : Declaration → Declaration → Bool
same_declaration x y = same_kind x.kind y.kind && same_member x.member y.member

abbrev pub same_name_of_kind : NameOfKind → NameOfKind → Bool
same_name_of_kind x y = same_kind x.kind y.kind && same_name x.name y.name

-- one more name with its meaning, unless the name has a meaning already
abbrev pub first_stays : {K V : Type 0} → (K → K → Bool) → List (K × V) → K → V → List (K × V)
first_stays same entries name meaning =
    if is_none (lookup (same name) entries) then entries ++ (name, meaning) ∷ [] else entries
