-- The abilities of the types in a pool, entry by entry.
use Rattle.std.specs.Prelude.{◌≡◌, ℕ, ◌+◌, ◌-◌, ◌<◌, ◌≤◌, Bool, true, false, ◌&&◌, List, [], ◌∷◌, length, All, Some, slice_get, slice_index_or, if◌then◌else◌}
use Rattle.std.specs.Map.{lookup}
use Rattle.base.specs.TypeData.{TypeData}
use Rattle.program.specs.declared.declaration.AbilitySet.{AbilitySet}
use Rattle.program.specs.declared.declaration.TypeParameter.{TypeParameter}
use Rattle.program.specs.Same.{same_struct}
use Rattle.program.specs.Sets.{all_abilities, no_abilities, both}
use Rattle.program.specs.Types.{Structs, declared_applied, is_phantom, of_reference, of_tuple, of_type, of_vector}
use Rattle.typing_rules.specs.declared.sort.Wrap.TheVariants.{Vector, Shared, Mutable}
use Rattle.typing_rules.specs.Required.{is_constrained, meets_parameter, type_parameters_of}
use Rattle.typing_rules.specs.Pools.{plain_type, type_at}
use Rattle.typing_rules.specs.declared.type_pool.PoolType.{PoolType}
use Rattle.typing_rules.specs.declared.type_pool.PoolType.TheVariants.{Plain, Made, Struct, Tuple}
use Rattle.ability_rules.specs.declared.required.entry.Judged.{Judged}
use Rattle.ability_rules.specs.declared.required.entry.JudgedTypes.{JudgedTypes}

-- the judgment of a type
abbrev pub judged_type : Structs → List AbilitySet → TypeData → Judged
judged_type structs params of = record { abilities = of_type structs params of; is_constrained = is_constrained structs params of }

abbrev pub nothing_judged : Judged
nothing_judged = record { abilities = no_abilities; is_constrained = false }

-- the judgment of the entry with the number n
abbrev pub judged_at : JudgedTypes → ℕ → Judged
judged_at table n = slice_index_or table.judged.items (n - table.start) nothing_judged

-- the table has the entry with this number
pub record IsListed (table : JudgedTypes) (n : ℕ) : Type 0 where
  pub begins : table.start ≤ n
  pub ends : n < table.start + length table.judged.items

-- and each part of an entry
abbrev pub HasKnownParts : JudgedTypes → PoolType → Type 0
HasKnownParts table (Plain p) = Unit {0}
HasKnownParts table (Made wrap m) = IsListed table m
HasKnownParts table (Struct s ms) = All (IsListed table) ms
HasKnownParts table (Tuple ms) = All (IsListed table) ms

-- the judgment of each entry in the table is that of its type
pub record TellsTypes (structs : Structs) (params : List AbilitySet) (ts : List TypeData) (table : JudgedTypes) : Type 0 where
  pub each : (n : ℕ) → IsListed table n → judged_at table n ≡ judged_type structs params (type_at ts n)

-- no part of an entry has a number below this one
abbrev pub HasPartsFrom : ℕ → PoolType → Type 0
HasPartsFrom start (Plain p) = Unit {0}
HasPartsFrom start (Made wrap m) = start ≤ m
HasPartsFrom start (Struct s ms) = All (λ m. start ≤ m) ms
HasPartsFrom start (Tuple ms) = All (λ m. start ≤ m) ms

-- the entries from a number on have no parts before it
pub record AreFrom (start : ℕ) (pool : List PoolType) : Type 0 where
  pub each : (n : ℕ) (entry : PoolType) → start ≤ n → slice_get pool n ≡ Some entry → HasPartsFrom start entry

-- ---- judgments from those of the parts

abbrev pub common_known : (ℕ → Judged) → List TypeParameter → ℕ → List ℕ → AbilitySet
common_known known parameters n [] = all_abilities
common_known known parameters n (m ∷ ms) =
    if is_phantom (slice_get parameters n) then common_known known parameters (n + 1) ms
    else both (known m).abilities (common_known known parameters (n + 1) ms)

abbrev pub are_constrained_known : (ℕ → Judged) → List TypeParameter → ℕ → List ℕ → Bool
are_constrained_known known parameters n [] = true
are_constrained_known known parameters n (m ∷ ms) =
    ((known m).is_constrained && meets_parameter (slice_get parameters n) (known m).abilities) && are_constrained_known known parameters (n + 1) ms

abbrev pub entry_abilities : Structs → List AbilitySet → (ℕ → Judged) → PoolType → AbilitySet
entry_abilities structs params known (Plain p) = of_type structs params (plain_type p)
entry_abilities structs params known (Made Vector m) = of_vector (known m).abilities
entry_abilities structs params known (Made Shared m) = of_reference
entry_abilities structs params known (Made Mutable m) = of_reference
entry_abilities structs params known (Struct s ms) = declared_applied (lookup (same_struct s) structs) (λ parameters. common_known known parameters 0 ms)
entry_abilities structs params known (Tuple ms) = of_tuple (common_known known [] 0 ms)

abbrev pub entry_constrained : Structs → (ℕ → Judged) → PoolType → Bool
entry_constrained structs known (Plain p) = true
entry_constrained structs known (Made wrap m) = (known m).is_constrained
entry_constrained structs known (Struct s ms) = are_constrained_known known (type_parameters_of (lookup (same_struct s) structs)) 0 ms
entry_constrained structs known (Tuple ms) = are_constrained_known known [] 0 ms

abbrev pub judged_entry : Structs → List AbilitySet → (ℕ → Judged) → PoolType → Judged
judged_entry structs params known entry =
    record { abilities = entry_abilities structs params known entry; is_constrained = entry_constrained structs known entry }
