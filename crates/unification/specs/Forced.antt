-- What is known of type variables before defaults are applied.
use Rattle.std.specs.Prelude.{List, length}
use Rattle.unification.specs.declared.type_variables.slots.Slot.{Slot}
use Rattle.typing_rules.specs.declared.type_pool.PoolType.{PoolType}
use Rattle.unification.specs.Roots.{AreRoots}
use Rattle.unification.specs.Numbers.{TableSays}
use Rattle.unification.specs.declared.solution.forced.Forced.{Forced}

-- the representative of each type variable, and the number of its type if all typings that meet the slots give it one
pub record ForcedSays (slots : List Slot) (pool : List PoolType) (f : Forced) : Type 0 where
  pub roots_are : AreRoots slots f.roots.items (length slots)
  pub table : TableSays slots (length slots) pool f.numbers.items
