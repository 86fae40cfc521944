-- Required abilities of the types of a body's type variables, from the judgments of these types.
use Rattle.std.specs.Prelude.{◌≡◌, ℕ, ◌+◌, ◌<◌, Bool, false, not, ◌&&◌, List, length, map, All, slice_get, slice_index_or}
use Rattle.std.specs.List.{list_any}
use Rattle.base.specs.TypeData.{TypeData}
use Rattle.program.specs.declared.declaration.AbilitySet.{AbilitySet}
use Rattle.program.specs.declared.declaration.Function.{Function}
use Rattle.program.specs.declared.declaration.TypeParameter.{TypeParameter}
use Rattle.program.specs.declared.program.Program.{Program}
use Rattle.program.specs.Types.{Structs}
use Rattle.program.specs.CodeNodes.{CodeNode}
use Rattle.typing_rules.specs.Answers.{IsTyped}
use Rattle.typing_rules.specs.CodeSystems.{function_system}
use Rattle.typing_rules.specs.Required.{Ability, required_at, given_abilities, has_ability, is_constrained, is_taken_as_place, meets_parameter, written_at}
use Rattle.typing_rules.specs.Pools.{type_at}
use Rattle.ability_rules.specs.declared.required.entry.Judged.{Judged}
use Rattle.ability_rules.specs.declared.required.entry.JudgedTypes.{JudgedTypes}
use Rattle.ability_rules.specs.Entries.{IsListed, TellsTypes, judged_at}

-- the judgment of the type of the type variable p
abbrev pub judged_variable : JudgedTypes → List ℕ → ℕ → Judged
judged_variable table variables p = judged_at table (slice_index_or variables p 0)

-- ---- the table of a body

-- All of these type variables have types, by numbers that the table has.
pub record IsJudgedBody (program : Program) (f : Function) (variables : List ℕ) (table : JudgedTypes) : Type 0 where
  pub types : List TypeData
  pub typed : IsTyped (function_system program f) (map (type_at types) variables)
  pub tells : TellsTypes program.structs (given_abilities f.type_parameters) types table
  pub known : All (IsListed table) variables

-- for each node whether another node takes it as an lvalue, and not its value
pub record TellsTaken (taken : List Bool) (nodes : List CodeNode) : Type 0 where
  pub len : length taken ≡ length nodes
  pub each : (n : ℕ) → n < length nodes → slice_index_or taken n false ≡ is_taken_as_place nodes n

-- ---- what is lacking

-- the type of the variable lacks an ability that is required of it
abbrev pub is_lacking : (ℕ → Judged) → (ℕ × Ability) → Bool
is_lacking known ask = not (has_ability ask.1 (known ask.0).abilities)

abbrev pub node_lacks : (ℕ → Judged) → List CodeNode → ℕ → ℕ → CodeNode → Bool
node_lacks known nodes n first node = list_any (is_lacking known) (required_at nodes n first node)

-- a type is a valid argument for its parameter
abbrev pub is_argument : Judged → List TypeParameter → ℕ → Bool
is_argument known parameters i = known.is_constrained && meets_parameter (slice_get parameters i) known.abilities

-- a type that is written at the node contains a type argument that does not meet its constraint
abbrev pub writes_lacking : Structs → List AbilitySet → CodeNode → Bool
writes_lacking structs params node = list_any (λ of. not (is_constrained structs params of)) (written_at node)

-- one of the type arguments, so many from a type variable on, is no valid argument for its parameter
pub record LacksArgument (known : ℕ → Judged) (parameters : List TypeParameter) (first count : ℕ) : Type 0 where
  pub number : ℕ
  pub within : number < count
  pub lacks : is_argument (known (first + number)) parameters number ≡ false
