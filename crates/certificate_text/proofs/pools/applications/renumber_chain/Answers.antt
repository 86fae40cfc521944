use Rattle.std.proofs.Common.{◌∙◌, ap, get_or, set, length, arith, ◌<◌}
use Rattle.std.proofs.lemmas.List.{get_or_default}
use Rattle.std.proofs.lemmas.List.Edits.{map_over_more}
use Rattle.explanations.specs.declared.chain.ChainStep.TheVariants.{Itself}
use Rattle.certificate_text.specs.Applications.{step_anew}
use Rattle.certificate_text.proofs.pools.applications.renumber_chain.Goals as goal

pub loop-step-preserved : goal.loop-step-preserved
loop-step-preserved c =
    let f = step_anew c.args.numbers.now in
    let xs = c.args.chain.now in
    let ys = c.loop-step.chain in
    let i = c.loop-step.step-index in
    let t = c.loop-step-test.true in
    let x = get_or ys i (Itself 0) in
    let within : i < length ys = (let a = c.loop-step.auto.chain in omega (arith, t, a)) in
    ap (set ys i) c.step_anew.ensures ∙ map_over_more f xs ys i x t c.loop-step.invariant (get_or_default ys i (Itself 0) x within)
