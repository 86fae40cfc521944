use Rattle.std.proofs.Common.{get_or}
use Rattle.std.proofs.lemmas.List.{get_or_default}
use Rattle.explanations.specs.declared.chain.ChainStep.TheVariants.{Itself}
use Rattle.certificate_text.specs.Names.{named_by_step}
use Rattle.certificate_text.proofs.MarkLemmas.{names_more}
use Rattle.certificate_text.proofs.pools.needs.mark_chain.Goals as goal

pub loop-step-preserved : goal.loop-step-preserved
loop-step-preserved c =
    let xs = c.args.chain.now in
    let i = c.loop-step.step-index in
    let x = get_or xs i (Itself 0) in
    names_more named_by_step c.args.marks.now c.loop-step.marks c.mark_step.new.marks xs i x c.loop-step-test.true (get_or_default xs i (Itself 0) x c.loop-step-test.true) c.loop-step.invariant c.mark_step.ensures
