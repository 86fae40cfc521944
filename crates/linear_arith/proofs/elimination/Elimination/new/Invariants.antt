use Rattle.std.proofs.Common.{◌≡◌, ℕ, ◌<◌, [], get_or}
use Rattle.std.specs.Prelude.{Contains}
use Rattle.linear_arith.specs.Inequality.{Inequality, padded}
use Rattle.linear_arith.specs.Stages.{IsUnderWay, KeepsRows}
use Rattle.linear_arith.proofs.elimination.Elimination.new.Given as goal

abbrev pub invariant-loop-i : goal.invariant-loop-i
invariant-loop-i l = record {
  unknowns : l.elimination.unknowns.items ≡ [];
  stages : l.elimination.stages.items ≡ [];
  under_way : IsUnderWay l.system.width l.system.rows.now l.elimination;
  keeps : KeepsRows l.elimination;
  begins : (k : ℕ) (d : Inequality) → k < l.i → Contains l.elimination.found (padded l.system.width (get_or l.system.rows.now k d));
}
