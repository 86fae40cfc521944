-- Tables of types.
use Rattle.std.specs.Prelude.{◌<◌, length, map, All}
use Rattle.typing_rules.specs.Answers.{System, IsTyped, IsUntypable, IsAmbiguous}
use Rattle.typing_rules.specs.Pools.{type_at, types}
use Rattle.type_check.specs.declared.typed_program.TypeTable.{TypeTable}

-- each type variable has the type whose number in the pool the table gives it
abbrev pub IsTable : System → TypeTable → Type 0
IsTable s t = IsTyped s (map (type_at (types t.pool)) t.types) × All (λ n. n < length t.pool) t.types

-- typings exist, no head is open, and the type of each type variable is forced
abbrev pub IsSettled : System → Type 0
IsSettled s = (IsUntypable s → ⊥) × (IsAmbiguous s → ⊥)
