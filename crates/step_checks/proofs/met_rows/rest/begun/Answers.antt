use Rattle.std.proofs.Common.{rules, sym, ◌∙◌}
use Rattle.std.specs.Prelude.{FitsSigned}
use Rattle.std.specs.Int.{w128}
use Rattle.std.proofs.lemmas.Int.{to_z-of_z}
use Rattle.step_checks.proofs.RestLemmas.{all_left}
use Rattle.step_checks.proofs.met_rows.rest.begun.Goals as goal

pub returns : goal.returns
returns c =
    let fits : FitsSigned w128 c.bound.result = search rules in
    let parts = simp to_z-of_z at c.parts_of-bound.ensures in
    all_left c.args.row.now _ (c.in_ok-from_slice.ensures.items ∙ c.coefficients.ensures) c.in_ok-new.ensures
    (rw (c.in_ok-new-2.ensures, c.in_ok-new-3.ensures) (sym c.bound.ensures ∙ parts))
