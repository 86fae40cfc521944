use Rattle.std.proofs.Common.{◌<◌, ◌+◌, ◌*◌, ◌↔◌}
use Rattle.linear_arith.proofs.numbers.is_product_less.Given as goal

abbrev pub invariant-loop-a : goal.invariant-loop-a
invariant-loop-a l = record {
  left_by : 0 < l.left_by;
  right_by : 0 < l.right_by;
  same : (l.left * l.right_by < l.left_by * l.right) ↔ (l.fn.a * l.fn.b < l.fn.c * l.fn.d);
}

abbrev pub decreases-loop-a : goal.decreases-loop-a
decreases-loop-a l = l.left_by + l.right_by
