use Rattle.std.proofs.Common.{◌≡◌, ◌++◌, ◌<◌, ℕ, Some}
use Rattle.std.specs.Prelude.{slice_get}
use Rattle.typing_rules.specs.Pools.{IsBelow}
use Rattle.typing_rules.specs.declared.type_pool.PoolType.{PoolType}
use Rattle.ability_rules.specs.Edges.{at_entry, pieces}
use Rattle.ability_rules.proofs.polymorphic_recursion.edges.push_entries.Given as goal

abbrev pub invariant-loop-number : goal.invariant-loop-number
invariant-loop-number l =
    (l.into.items ≡ l.initial.into.items ++ pieces (at_entry l.row l.pool) l.number)
    × ((n : ℕ) (e : PoolType) → n < l.number → slice_get l.pool n ≡ Some e → IsBelow n e)
