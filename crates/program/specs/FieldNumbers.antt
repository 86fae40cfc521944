-- The numbers of the fields of structs, in the order in which they are declared (The Move Book, "Structs").
use Rattle.std.specs.Prelude.{◌≡◌, ℕ, List, Option, option_and_then}
use Rattle.std.specs.Map.{lookup}
use Rattle.std.specs.List.{position}
use Rattle.base.specs.Names.{same_name}
use Rattle.base.specs.Pairs.{Paired}
use Rattle.base.specs.declared.types.StructId.{StructId}
use Rattle.program.specs.declared.declaration.TypedName.{TypedName}
use Rattle.program.specs.declared.declaration.Struct.{Struct}
use Rattle.program.specs.Same.{same_struct}
use Rattle.program.specs.declared.field_numbers.FieldNumbers.{FieldNumbers}

-- how many fields are before the first one with this name, if there is one
abbrev pub field_number : List TypedName → List ℕ → Option ℕ
field_number fields name = position (λ f. same_name name f.name) fields

-- the number of the field with this name of a struct of the list
abbrev pub field_number_in : List (StructId × Struct) → StructId → List ℕ → Option ℕ
field_number_in structs owner name = option_and_then (λ s. field_number s.fields name) (lookup (same_struct owner) structs)

-- each name has the number of its field
pub record AreNumbers (fields : List TypedName) (numbers : List (List ℕ × ℕ)) : Type 0 where
  pub each : (name : List ℕ) → lookup (same_name name) numbers ≡ field_number fields name

-- the same for each struct, in order
abbrev pub AreFieldNumbers : List (StructId × Struct) → FieldNumbers → Type 0
AreFieldNumbers structs numbers = Paired (λ s n. AreNumbers s.1.fields n) structs numbers.structs.items
