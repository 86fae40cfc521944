-- Duplicate declarations in the modules of a program. Source: The Move Book, "Modules and Scripts": a module is named
-- by its address and its name; `0x1::vector` and `0x1::signer` are builtin.
use Rattle.std.specs.Prelude.{ℕ, ◌+◌, Bool, false, List, [], ◌∷◌, ◌++◌, Option, Some, None, if◌then◌else◌}
use Rattle.std.specs.List.{list_any, flat_map}
use Rattle.std.specs.Option.{option_or}
use Rattle.syntax_tree.specs.SourceModuleData.{SourceModuleData}
use Rattle.program.specs.declared.program.ModuleId.{ModuleId}
use Rattle.indexmap.specs.IndexSet.{insert_all}
use Rattle.scopes.specs.NamedAddresses.{standard}
use Rattle.scopes.specs.declared.member.Declaration.{Declaration}
use Rattle.scopes.specs.declared.member.MemberKind.TheVariants.{Function}
use Rattle.scopes.specs.Builtins.{builtin_declarations, vector_module, signer_module}
use Rattle.scopes.specs.MemberNames.{same_module, same_declaration}
use Rattle.scopes.specs.EnvironmentData.{EnvironmentData, with_declared}
use Rattle.scopes.specs.Meanings.{module_meaning}
use Rattle.scopes.specs.Declares.{listed, module_declares}
use Rattle.scopes.specs.Twice.{first_twice}

-- the module is among these; one with an unknown address is among none
abbrev pub is_among : List ModuleId → Option ModuleId → Bool
is_among modules None = false
is_among modules (Some id) = list_any (same_module id) modules

-- the address and the name of a module, if its address is known
abbrev pub module_of : EnvironmentData → SourceModuleData → List ModuleId
module_of env m = listed (module_meaning env m.name)

abbrev pub modules_of : EnvironmentData → List SourceModuleData → List ModuleId
modules_of env modules = flat_map (module_of env) modules

-- The byte offset of the first token of the first duplicate declaration of a source, given the modules before it: a
-- module or a member.
abbrev pub twice_in_source : EnvironmentData → List ModuleId → List SourceModuleData → Option ℕ
twice_in_source env before [] = None
twice_in_source env before (m ∷ ms) =
    if is_among before (module_meaning env m.name) then Some m.span.start
    else option_or (first_twice env [] m.members) (twice_in_source env (before ++ module_of env m) ms)

abbrev pub builtin_declaration : List ℕ → List ℕ → Declaration
builtin_declaration owner name = record { kind = Function; member = record { owner = record { address = 1; name = owner }; name = name } }

-- the environment of the builtins alone, without a module of any file: each declaration once
abbrev pub language : EnvironmentData
language = record {
  addresses = standard;
  declared = insert_all same_declaration [] builtin_declarations;
  own = vector_module;
  modules = [];
  names = [];
}

-- the environment of the builtins and of the modules of sources
abbrev pub declaring : List (List SourceModuleData) → EnvironmentData
declaring sources = with_declared language (insert_all same_declaration language.declared (flat_map (flat_map (module_declares language)) sources))

-- ---- files

-- the builtin modules
abbrev pub builtin_modules : List ModuleId
builtin_modules = vector_module ∷ signer_module ∷ []

-- the position in the file of this index, or else the one found in the files after it
abbrev pub first_offset : ℕ → Option ℕ → Option (ℕ × ℕ) → Option (ℕ × ℕ)
first_offset n None behind = behind
first_offset n (Some offset) behind = Some (n, offset)

-- given these modules, in files the first of which has this index
abbrev pub twice_in_sources : EnvironmentData → List ModuleId → ℕ → List (List SourceModuleData) → Option (ℕ × ℕ)
twice_in_sources env before n [] = None
twice_in_sources env before n (source ∷ sources) =
    first_offset n (twice_in_source env before source) (twice_in_sources env (before ++ modules_of env source) (1 + n) sources)

-- The first duplicate declaration of files: the index of its file, and the byte offset of its first token.
abbrev pub first_twice_of : List (List SourceModuleData) → Option (ℕ × ℕ)
first_twice_of sources = twice_in_sources (declaring sources) builtin_modules 0 sources
