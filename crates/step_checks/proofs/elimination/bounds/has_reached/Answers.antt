use Rattle.std.proofs.Common.{pos, get_or, FitsSigned, arith}
use Rattle.std.specs.Int.{w128}
use Rattle.std.proofs.lemmas.Int.{to_z-of_z}
use Rattle.step_checks.specs.declared.elimination.bounds.Bound.{Bound}
use Rattle.step_checks.specs.Choices.{IsReachedAt, HasReached}
use Rattle.step_checks.proofs.BoundLemmas.{none_reached, reached_at, reached_more, reached_end}
use Rattle.step_checks.proofs.CheckLemmas.{refused, decided_true, decided_false}
use Rattle.step_checks.proofs.elimination.bounds.has_reached.Goals as goal

pub loop-bound-init : goal.loop-bound-init
loop-bound-init c = none_reached _ _

pub loop-bound-preserved : goal.loop-bound-preserved
loop-bound-preserved c =
    let bounds = c.args.bounds.now in
    let i = c.loop-bound.bound-index in
    let p = c.args.numerator in
    let q = c.args.denominator in
    let fp : FitsSigned w128 p = c.ranges.numerator in
    let fq : FitsSigned w128 q = c.ranges.denominator in
    let blank : Bound = record { coefficient = pos 0; bound = pos 0 } in
    let known = simp to_z-of_z at c.is_reached.ensures in
    let before = simp to_z-of_z at c.loop-bound.invariant in
    rw (to_z-of_z w128 p fp, to_z-of_z w128 q fq) (reached_more bounds p q i blank (omega arith) (λ h. refused c.is_reached.result (IsReachedAt p q (get_or bounds i blank)) c.if-is_reached.false known h) before)

pub returns-then-is_reached : goal.returns-then-is_reached
returns-then-is_reached c =
    let bounds = c.args.bounds.now in
    let i = c.loop-bound.bound-index in
    let p = c.args.numerator in
    let q = c.args.denominator in
    let fp : FitsSigned w128 p = c.ranges.numerator in
    let fq : FitsSigned w128 q = c.ranges.denominator in
    let blank : Bound = record { coefficient = pos 0; bound = pos 0 } in
    let known = simp to_z-of_z at c.is_reached.ensures in
    decided_true (HasReached bounds p q) (reached_at bounds p q i blank (omega arith) (known.0 c.if-is_reached.true))

pub returns : goal.returns
returns c =
    let bounds = c.args.bounds.now in
    let p = c.args.numerator in
    let q = c.args.denominator in
    let fp : FitsSigned w128 p = c.ranges.numerator in
    let fq : FitsSigned w128 q = c.ranges.denominator in
    let none = simp to_z-of_z at c.loop-bound.invariant in
    decided_false (HasReached bounds p q) (reached_end bounds p q c.loop-bound.bound-index (omega arith) none)
