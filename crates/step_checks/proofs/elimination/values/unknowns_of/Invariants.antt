use Rattle.std.proofs.Common.{◌≡◌, map, take}
use Rattle.linear_arith.specs.declared.rows.Fraction.{Fraction}
use Rattle.step_checks.proofs.elimination.values.unknowns_of.Given as goal

abbrev pub invariant-loop-value : goal.invariant-loop-value
invariant-loop-value l = l.unknowns.items ≡ map (λ (value : Fraction). value.unknown) (take l.value-index l.values)
