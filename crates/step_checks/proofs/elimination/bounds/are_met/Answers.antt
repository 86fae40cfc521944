use Rattle.std.proofs.Common.{pos, get_or, FitsSigned, subst, arith, List}
use Rattle.std.specs.Int.{w128}
use Rattle.std.proofs.lemmas.Int.{to_z-of_z}
use Rattle.std.proofs.lemmas.List.{take_all}
use Rattle.std.proofs.lemmas.List.Elements.{All-more}
use Rattle.step_checks.specs.declared.elimination.bounds.Bound.{Bound}
use Rattle.step_checks.specs.Choices.{IsMetAt, AreMetAt}
use Rattle.step_checks.proofs.CheckLemmas.{refused, decided_true, decided_false}
use Rattle.step_checks.proofs.elimination.bounds.are_met.Goals as goal

pub loop-bound-preserved : goal.loop-bound-preserved
loop-bound-preserved c =
    let bounds = c.args.bounds.now in
    let i = c.loop-bound.bound-index in
    let p = c.args.numerator in
    let q = c.args.denominator in
    let fp : FitsSigned w128 p = c.ranges.numerator in
    let fq : FitsSigned w128 q = c.ranges.denominator in
    let blank : Bound = record { coefficient = pos 0; bound = pos 0 } in
    let met = simp to_z-of_z at c.is_met.ensures in
    let before = simp to_z-of_z at c.loop-bound.invariant in
    rw (to_z-of_z w128 p fp, to_z-of_z w128 q fq) (All-more (IsMetAt p q) bounds i blank (omega arith) before (met.0 c.if-not-is_met.false))

pub returns-then-not-is_met : goal.returns-then-not-is_met
returns-then-not-is_met c =
    let bounds = c.args.bounds.now in
    let i = c.loop-bound.bound-index in
    let p = c.args.numerator in
    let q = c.args.denominator in
    let fp : FitsSigned w128 p = c.ranges.numerator in
    let fq : FitsSigned w128 q = c.ranges.denominator in
    let blank : Bound = record { coefficient = pos 0; bound = pos 0 } in
    let met = simp to_z-of_z at c.is_met.ensures in
    decided_false (AreMetAt bounds p q) (λ all. refused c.is_met.result (IsMetAt p q (get_or bounds i blank)) c.if-not-is_met.true met (all i blank (omega arith)))

pub returns : goal.returns
returns c =
    let bounds = c.args.bounds.now in
    let i = c.loop-bound.bound-index in
    let p = c.args.numerator in
    let q = c.args.denominator in
    let fp : FitsSigned w128 p = c.ranges.numerator in
    let fq : FitsSigned w128 q = c.ranges.denominator in
    let all = simp to_z-of_z at c.loop-bound.invariant in
    decided_true (AreMetAt bounds p q) (subst (λ (bs : List Bound). AreMetAt bs p q) (take_all i bounds (omega arith)) all)
