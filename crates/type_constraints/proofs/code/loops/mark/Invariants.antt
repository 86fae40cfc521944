use Rattle.std.proofs.Common.{◌≡◌, ℕ, ◌<◌, ◌+◌, ◌&&◌, ◌||◌, false, get_or, length}
use Rattle.std.specs.Prelude.{ltb}
use Rattle.type_constraints.proofs.code.loops.mark.Given as goal

abbrev pub invariant-loop-variable : goal.invariant-loop-variable
invariant-loop-variable l = record {
  len : length l.known.items ≡ length l.fn.known.items;
  marked : (n : ℕ) → n < length l.fn.known.items → get_or l.known.items n false ≡ (get_or l.fn.known.items n false || (ltb n l.variable && ltb l.body (n + l.size)));
}
