use Rattle.std.proofs.Common.{rules, FitsSigned}
use Rattle.std.specs.Int.{w128}
use Rattle.std.proofs.lemmas.Int.{to_z-of_z}
use Rattle.step_checks.proofs.elimination.bounds.is_met.Goals as goal

pub returns : goal.returns
returns c =
    let fn : FitsSigned w128 c.args.numerator = c.ranges.numerator in
    let fd : FitsSigned w128 c.args.denominator = c.ranges.denominator in
    let fc : FitsSigned w128 c.args.bound.now.coefficient = search rules in
    let fb : FitsSigned w128 c.args.bound.now.bound = search rules in
    simp to_z-of_z at c.is_product_at_most.ensures
