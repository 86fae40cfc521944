use Rattle.std.proofs.Common.{rules, ◌≡◌, pos, ◌+ℤ◌, ◌<ℤ◌, ◌^◌, FitsSigned, ◌∙◌, ap, arith}
use Rattle.std.specs.Prelude.{unsigned_abs}
use Rattle.std.specs.Bool.{Decides}
use Rattle.std.specs.Int.{w128}
use Rattle.std.proofs.lemmas.Int.{ints, to_z-of_z}
use Rattle.linear_arith.specs.Floor.{IsFloor}
use Rattle.step_checks.specs.Choices.{AreMetAt, HasNoWhole}
use Rattle.step_checks.proofs.BoundLemmas.{size_of_positive, more_than_one, next_fits, around_decided}
use Rattle.step_checks.proofs.CheckLemmas.{decided_false}
use Rattle.step_checks.proofs.elimination.bounds.has_no_whole.Goals as goal

pub returns-then-are_met : goal.returns-then-are_met
returns-then-are_met c =
    let bounds = c.args.bounds.now in
    let f = c.floor_quotient-below.result in
    let ff : FitsSigned w128 f = search rules in
    let known : Decides c.are_met.result (AreMetAt bounds f (pos 1)) = simp to_z-of_z at c.are_met.ensures in
    decided_false (HasNoWhole bounds) (λ none. none f (known.0 c.if-are_met.true))

pub returns : goal.returns
returns c =
    let bounds = c.args.bounds.now in
    let p = c.args.value.now.numerator in
    let q = c.args.value.now.denominator in
    let f = c.floor_quotient-below.result in
    let fp : FitsSigned w128 p = search rules in
    let fq : FitsSigned w128 q = search rules in
    let ff : FitsSigned w128 f = search rules in
    let size : c.unsigned_abs.result ≡ unsigned_abs q = simp to_z-of_z at c.unsigned_abs.ensures.value in
    let floor : IsFloor p c.unsigned_abs.result f = simp to_z-of_z at c.floor_quotient-below.ensures in
    let below : Decides c.are_met.result (AreMetAt bounds f (pos 1)) = simp to_z-of_z at c.are_met.ensures in
    let top : (f +ℤ pos 1) <ℤ pos (2 ^ 127) = next_fits p f c.unsigned_abs.result (let h = c.requires.denominator in more_than_one q c.unsigned_abs.result size (omega (arith, ints, h))) (omega (arith, ints)) floor in
    let fn : FitsSigned w128 (f +ℤ pos 1) = search rules in
    let above : Decides c.are_met-2.result (AreMetAt bounds (f +ℤ pos 1) (pos 1)) = simp to_z-of_z at c.are_met-2.ensures in
    let positive : pos 0 <ℤ q = (let h = c.requires.denominator in omega (arith, ints, h)) in
    around_decided bounds p q f c.unsigned_abs.result c.are_met.result c.are_met-2.result (ap pos size ∙ size_of_positive q positive) positive c.requires.met floor below above c.if-are_met.false
