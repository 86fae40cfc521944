use Rattle.std.proofs.Common.{◌≡◌, ◌<◌, length, map, take, All}
use Rattle.typing_rules.specs.Pools.{type_at, types}
use Rattle.unification.specs.Numbers.{Keeps}
use Rattle.unification.proofs.solution.pooled.+add_type.Given as goal

abbrev pub invariant-add_types-loop-part : goal.invariant-add_types-loop-part
invariant-add_types-loop-part l = record {
  keeps : Keeps l.fn.pool l.pool;
  within : All (λ n. n < length l.pool) l.numbers;
  are : map (type_at (types l.pool)) l.numbers ≡ take l.part-index l.parts;
}
