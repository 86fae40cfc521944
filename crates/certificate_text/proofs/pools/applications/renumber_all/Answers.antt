use Rattle.std.proofs.Common.{◌∙◌, ap, get_or, set, length, arith, ◌<◌}
use Rattle.std.proofs.lemmas.List.{get_or_default}
use Rattle.std.proofs.lemmas.List.Edits.{map_over_more}
use Rattle.certificate_text.specs.Nodes.{new_number}
use Rattle.certificate_text.proofs.pools.applications.renumber_all.Goals as goal

pub loop-formula-preserved : goal.loop-formula-preserved
loop-formula-preserved c =
    let f = new_number c.args.numbers.now in
    let xs = c.args.formulas.now in
    let ys = c.loop-formula.formulas in
    let i = c.loop-formula.formula-index in
    let h = c.new_number.ensures in
    let a = c.loop-formula.auto.formulas in
    let t = c.loop-formula-test.true in
    let within : i < length ys = omega (arith, t, a) in
    ap (set ys i) c.new_number.ensures ∙ map_over_more f xs ys i (get_or ys i 0) t c.loop-formula.invariant (get_or_default ys i 0 (get_or ys i 0) within)
