use Rattle.std.proofs.Common.{◌≡◌, ◌≤◌, ◌+◌, ◌*◌, ◌++◌}
use Rattle.base.specs.TypeData.{list_of_types}
use Rattle.term_pool.specs.Items.{types_in}
use Rattle.term_pool.specs.Pools.{item_at}
use Rattle.term_pool.proofs.reading.+read_type.Given as goal

-- the types so far and those of the rest are all types
abbrev pub invariant-read_types-loop-first : goal.invariant-read_types-loop-first
invariant-read_types-loop-first l = record {
  all : l.items.items ++ list_of_types (types_in (item_at l.pool l.list)) ≡ list_of_types (types_in (item_at l.pool l.number));
  earlier : l.list ≤ l.number;
}

abbrev pub decreases-read_types-loop-first : goal.decreases-read_types-loop-first
decreases-read_types-loop-first l = l.list

abbrev pub decreases-read_type : goal.decreases-read_type
decreases-read_type l = 4 * l.number + 1

abbrev pub decreases-read_boxed_type : goal.decreases-read_boxed_type
decreases-read_boxed_type l = 4 * l.number + 2

abbrev pub decreases-read_types : goal.decreases-read_types
decreases-read_types l = 4 * l.number + 1

abbrev pub decreases-read_one_type : goal.decreases-read_one_type
decreases-read_one_type l = 4 * l.a + 3

abbrev pub decreases-read_struct : goal.decreases-read_struct
decreases-read_struct l = 4 * l.ts + 2

abbrev pub decreases-read_three_type : goal.decreases-read_three_type
decreases-read_three_type l = 4 * l.c + 3
