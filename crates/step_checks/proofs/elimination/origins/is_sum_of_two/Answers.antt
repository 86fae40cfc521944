use Rattle.std.proofs.Common.{◌≡◌, Some, length, refl, sym}
use Rattle.std.specs.Prelude.{slice_get}
use Rattle.std.proofs.lemmas.Bool.{ltb-true}
use Rattle.std.proofs.lemmas.Option.{slice_get_read}
use Rattle.step_checks.specs.Given.{IsOfStage, IsSumOfTwo}
use Rattle.step_checks.proofs.CheckLemmas.{decided_false, same_sum, sum_of_positions}
use Rattle.step_checks.proofs.elimination.origins.is_sum_of_two.Goals as goal

pub returns-in-Some-2 : goal.returns-in-Some-2
returns-in-Some-2 c =
    let unknowns = c.args.unknowns.now in
    let before = c.args.before.now in
    let of = c.args.of in
    let unknown = c.in-Some.unknown.now in
    let upper = c.in-Some-get.upper.now in
    let lower = c.in-Some-get-2.lower.now in
    let e : slice_get unknowns of.step ≡ Some unknown = slice_get_read unknowns (length unknowns) of.step unknown refl (ltb-true of.step (length unknowns) (sym c.in-Some.ensures.lookup.0)) c.in-Some.ensures.lookup.1 in
    let f : slice_get before of.upper ≡ Some upper = slice_get_read before (length before) of.upper upper refl (ltb-true of.upper (length before) (sym c.in-Some-get.ensures.lookup.0)) c.in-Some-get.ensures.lookup.1 in
    let g : slice_get before of.lower ≡ Some lower = slice_get_read before (length before) of.lower lower refl (ltb-true of.lower (length before) (sym c.in-Some-get-2.ensures.lookup.0)) c.in-Some-get-2.ensures.lookup.1 in
    let us : IsOfStage unknowns of.step upper = c.is_of_stage.ensures.0 c.if-not-is_of_stage.false in
    let ls : IsOfStage unknowns of.step lower = c.is_of_stage-else-not-is_of_stage.ensures.0 c.if-not-is_of_stage-2.false in
    let some = rw c.in-Some-2.is at c.in_ok-sum.ensures.some in
    sum_of_positions unknowns before of c.args.row.now unknown upper lower c.in-Some-2.sum c.are_same.result e f g us ls some c.are_same.ensures

pub returns-in-None : goal.returns-in-None
returns-in-None c =
    let unknowns = c.args.unknowns.now in
    let before = c.args.before.now in
    let of = c.args.of in
    let unknown = c.in-Some.unknown.now in
    let upper = c.in-Some-get.upper.now in
    let lower = c.in-Some-get-2.lower.now in
    let e : slice_get unknowns of.step ≡ Some unknown = slice_get_read unknowns (length unknowns) of.step unknown refl (ltb-true of.step (length unknowns) (sym c.in-Some.ensures.lookup.0)) c.in-Some.ensures.lookup.1 in
    let f : slice_get before of.upper ≡ Some upper = slice_get_read before (length before) of.upper upper refl (ltb-true of.upper (length before) (sym c.in-Some-get.ensures.lookup.0)) c.in-Some-get.ensures.lookup.1 in
    let g : slice_get before of.lower ≡ Some lower = slice_get_read before (length before) of.lower lower refl (ltb-true of.lower (length before) (sym c.in-Some-get-2.ensures.lookup.0)) c.in-Some-get-2.ensures.lookup.1 in
    let none = rw c.in-None.is at c.in_ok-sum.ensures.none in
    decided_false (IsSumOfTwo unknowns before of c.args.row.now) (λ h. none c.args.row.now (same_sum unknowns before of c.args.row.now unknown upper lower e f g h))
