use Rattle.std.proofs.Common.{rules, ◌≡◌, pos, ◌+ℤ◌, ◌-ℤ◌, ◌<ℤ◌, FitsSigned, arith}
use Rattle.std.specs.Int.{w128}
use Rattle.std.proofs.lemmas.Int.{ints, to_z-of_z}
use Rattle.step_checks.specs.Choices.{IsNearest}
use Rattle.step_checks.proofs.BoundLemmas.{nearest_above, nearest_below, zero_nearest}
use Rattle.step_checks.proofs.CheckLemmas.{decided_true}
use Rattle.step_checks.proofs.elimination.bounds.is_nearest.Goals as goal

pub returns-then-number-eq0 : goal.returns-then-number-eq0
returns-then-number-eq0 c =
    let p = c.args.number in
    let fp : FitsSigned w128 p = c.ranges.number in
    let e : p ≡ pos 0 = omega (arith, ints) in
    decided_true (IsNearest c.args.bounds.now p) (zero_nearest c.args.bounds.now p e)

pub returns-then-number-gt0 : goal.returns-then-number-gt0
returns-then-number-gt0 c =
    let p = c.args.number in
    let fp : FitsSigned w128 p = c.ranges.number in
    let h : pos 0 <ℤ p = omega (arith, ints) in
    let f : FitsSigned w128 (p -ℤ pos 1) = search rules in
    let known = simp to_z-of_z at c.are_met.ensures in
    let met = c.requires in
    nearest_above c.args.bounds.now p c.are_met.result met h known

pub returns-else-number-gt0 : goal.returns-else-number-gt0
returns-else-number-gt0 c =
    let p = c.args.number in
    let fp : FitsSigned w128 p = c.ranges.number in
    let h : p <ℤ pos 0 = omega (arith, ints) in
    let f : FitsSigned w128 (p +ℤ pos 1) = search rules in
    let known = simp to_z-of_z at c.are_met-else-number-gt0.ensures in
    let met = c.requires in
    nearest_below c.args.bounds.now p c.are_met-else-number-gt0.result met h known
