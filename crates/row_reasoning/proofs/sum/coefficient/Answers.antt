use Rattle.std.proofs.Common.{◌∙◌, ap, pos, unwrap_or, rules}
use mir.Val.{SFits}
use mir.Syntax.{w128}
use Rattle.std.proofs.lemmas.Int.{to_z-of_z}
use Rattle.row_reasoning.proofs.CoefficientLemmas.{looked_up}
use Rattle.row_reasoning.proofs.sum.coefficient.Goals as goal

pub returns : goal.returns
returns c =
    let f : SFits w128 c.unwrap_or.result = search rules in
    simp to_z-of_z (c.unwrap_or.ensures ∙ ap (λ o. unwrap_or o (pos 0)) (c.copied.ensures ∙ c.get.ensures.value) ∙ looked_up c.args.coefficients.now.entries c.args.class)
