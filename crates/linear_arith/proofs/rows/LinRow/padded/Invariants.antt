use Rattle.std.proofs.Common.{◌≡◌, map}
use Rattle.std.specs.List.{range_with_len}
use Rattle.linear_arith.specs.Inequality.{coefficient}
use Rattle.linear_arith.proofs.rows.LinRow.padded.Given as goal

abbrev pub invariant-loop-unknown : goal.invariant-loop-unknown
invariant-loop-unknown l = l.coefficients.items ≡ map (λ u. coefficient u l.self) (range_with_len 0 l.unknown)
