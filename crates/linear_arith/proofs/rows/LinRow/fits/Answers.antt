use Rattle.std.proofs.Common.{rules, ℤ, List, sym, subst, FitsSigned}
use Rattle.std.specs.Prelude.{All}
use Rattle.std.specs.Int.{w128}
use Rattle.std.proofs.lemmas.Int.{to_z-of_z}
use Rattle.linear_arith.specs.Fits.{Fits}
use Rattle.linear_arith.proofs.FitLemmas.{fitting_row, fitting_numbers}
use Rattle.linear_arith.proofs.rows.LinRow.fits.Goals as goal

pub returns-in-Some : goal.returns-in-Some
returns-in-Some c =
    let row = c.args.self.now in
    let fb : FitsSigned w128 c.bound.result = search rules in
    let b = simp to_z-of_z at c.in-Some.ensures in
    let all = c.are_fitting.ensures in (
      λ t. fitting_row row (subst (λ (xs : List ℤ). All Fits xs) c.coefficients.ensures (all.0 t)) (subst (λ (z : ℤ). Fits z) c.bound.ensures b.0),
      λ f. all.1 (subst (λ (xs : List ℤ). All Fits xs) (sym c.coefficients.ensures) (fitting_numbers row f)),
    )
