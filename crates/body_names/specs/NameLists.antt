-- The last index of a name in a list.
use Rattle.std.specs.Prelude.{◌≡◌, ℕ, suc, List, [], ◌∷◌, Option, Some, None, if◌then◌else◌}
use Rattle.std.specs.Map.{lookup}
use Rattle.base.specs.Names.{same_name}

-- one more than the first index, or the second if there is no first one
abbrev pub later : Option ℕ → Option ℕ → Option ℕ
later (Some n) other = Some (suc n)
later None other = other

-- the index of the last name that is equal
abbrev pub last_index : List (List ℕ) → List ℕ → Option ℕ
last_index [] name = None
last_index (one ∷ more) name = later (last_index more name) (if same_name one name then Some 0 else None)

-- the entries give the last index of each name
pub record IsIndexOf (entries : List (List ℕ × ℕ)) (names : List (List ℕ)) : Type 0 where
  pub found : (name : List ℕ) → lookup (same_name name) entries ≡ last_index names name
