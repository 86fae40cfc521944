use Rattle.std.proofs.Common.{rules, ◌≡◌, FitsSigned, arith}
use Rattle.std.specs.Int.{w128}
use Rattle.std.proofs.lemmas.Int.{ints}
use Rattle.std.proofs.lemmas.Bool.Decides.{Decides-int_eq}
use Rattle.std.proofs.lemmas.Slice.Eq.{slice_eq-Decides}
use Rattle.step_checks.proofs.CheckLemmas.{same_numbers}
use Rattle.step_checks.proofs.elimination.rows.are_same.Goals as goal

pub returns-then-bound : goal.returns-then-bound
returns-then-bound c =
    let f : FitsSigned w128 c.bound.result = search rules in
    let g : FitsSigned w128 c.bound-2.result = search rules in
    let same : c.bound.result ≡ c.bound-2.result = omega (arith, ints) in
    same_numbers c.args.first.now c.args.second.now c.coefficients.result.now c.coefficients-then-bound.result.now c.bound.result c.bound-2.result c.eq.result c.coefficients.ensures c.coefficients-then-bound.ensures c.bound.ensures c.bound-2.ensures same (slice_eq-Decides Decides-int_eq _ _ _ c.eq.ensures)
