-- The numbering of the vertices of each function.
use Rattle.std.specs.Prelude.{◌≡◌, ◌↔◌, ℕ, ◌+◌, ◌<◌, ◌≤◌, Bool, false, IsTrue, List, length, Some, slice_get, slice_index_or}
use Rattle.base.specs.declared.types.FunctionId.{FunctionId}
use Rattle.program.specs.declared.declaration.Function.{Function}
use Rattle.program.specs.declared.program.Program.{Program}
use Rattle.typing_rules.specs.declared.type_pool.PoolType.{PoolType}
use Rattle.typing_rules.specs.Pools.{IsBelow}
use Rattle.ability_rules.specs.declared.polymorphic_recursion.rows.Row.{Row}
use Rattle.ability_rules.specs.declared.polymorphic_recursion.rows.Numbering.{Numbering}
use Rattle.ability_rules.specs.KnownTypes.{AreKnown}
use Rattle.ability_rules.specs.Edges.{number}
use Rattle.ability_rules.specs.declared.polymorphic_recursion.known.VariableTypes.{VariableTypes}

-- the number after all of a function's
abbrev pub row_end : Row → VariableTypes → ℕ
row_end r p = (r.first + r.parameters) + length p.pool.now

-- the numbers of each function come after those of the functions before it, all below the count
pub record AreRows (program : Program) (known : List VariableTypes) (rows : List Row) (n count : ℕ) : Type 0 where
  pub same_length : length rows ≡ n
  pub parameters : (k : ℕ) (r : Row) (id : FunctionId) (f : Function) → slice_get rows k ≡ Some r → slice_get program.functions k ≡ Some (id, f) → r.parameters ≡ length f.type_parameters
  pub apart : (k l : ℕ) (r s : Row) (p : VariableTypes) → k < l → slice_get rows k ≡ Some r → slice_get rows l ≡ Some s → slice_get known k ≡ Some p → row_end r p ≤ s.first
  pub within : (k : ℕ) (r : Row) (p : VariableTypes) → slice_get rows k ≡ Some r → slice_get known k ≡ Some p → row_end r p ≤ count

-- the parts of each type come before it
abbrev pub PartsAreBelow : List PoolType → Type 0
PartsAreBelow pool = (n : ℕ) (e : PoolType) → slice_get pool n ≡ Some e → IsBelow n e

abbrev pub ParameterCount : Program → ℕ → ℕ → Type 0
ParameterCount program k count = (id : FunctionId) (f : Function) → slice_get program.functions k ≡ Some (id, f) → count ≡ length f.type_parameters

-- what is known of all functions, and where their numbers begin
pub record IsNumbering (g : Numbering) : Type 0 where
  pub known : AreKnown g.program.now g.known.now
  pub rows : AreRows g.program.now g.known.now g.rows.now (length g.known.now) g.count

-- a type parameter of the first function with this name was found
pub record IsAnyFound (program : Program) (rows : List Row) (found : List Bool) (id : FunctionId) : Type 0 where
  pub at : ℕ
  pub number_is : number program id ≡ Some at
  pub row : Row
  pub row_is : slice_get rows at ≡ Some row
  pub parameter : ℕ
  pub within : parameter < row.parameters
  pub found_is : IsTrue (slice_index_or found (row.first + parameter) false)

-- the result for the function with this number is whether one was found
abbrev pub FoundAt : Numbering → List Bool → ℕ → Bool → Type 0
FoundAt g found n known = (id : FunctionId) (f : Function) → slice_get g.program.now.functions n ≡ Some (id, f) → IsTrue known ↔ IsAnyFound g.program.now g.rows.now found id
