use Rattle.std.proofs.Common.{pos, refl}
use mir.Val.{SFits}
use mir.Syntax.{w128}
use Rattle.std.proofs.lemmas.Int.{to_z-of_z}
use Rattle.row_reasoning.proofs.ResultLemmas.{match_map}
use Rattle.row_reasoning.proofs.JoiningLemmas.{multiple_made, multiple_leaving}
use Rattle.row_reasoning.proofs.sum.multiplied.Goals as goal

pub returns-clause-is : goal.returns-clause-is
returns-clause-is c =
    let f : SFits w128 c.args.factor = c.ranges.factor in
    match_map _ _ _ _
    (multiple_leaving c.args.sum.now (record { is_negated = c.args.sum.now.is_negated; constant = pos 0; coefficients = c.new.result }) c.args.factor (record { sign = refl; constant_is = refl; coefficients = c.new.ensures.empty }))
    (multiple_made c.args.sum.now (record { is_negated = c.args.sum.now.is_negated; constant = pos 0; coefficients = c.new.result }) c.args.factor (record { sign = refl; constant_is = refl; coefficients = c.new.ensures.empty }))
    c.plus_multiple.result (simp to_z-of_z at c.plus_multiple.ensures)
