use Rattle.std.proofs.Common.{ap, refl, sym, ◌∙◌}
use Rattle.front_end.specs.LocalCounts.{HasFewLocals, excess_of}
use Rattle.front_end.proofs.LocalLemmas.{none_is}
use Rattle.front_end.proofs.NumberedLemmas.{each_taken, first_at}
use Rattle.front_end.proofs.locals.check_locals.Goals as goal

pub returns-in-Some : goal.returns-in-Some
returns-in-Some c =
    let source = c.as_slice.ensures.value ∙ c.source.view_is ∙ c.index-sources-number.is in
    first_at c.args.sources.now c.loop-number.number c.index-sources-number.result c.loop-number-test.true c.loop-number.invariant
    (record { count = c.in-Some.count; fault_is = refl; excess = sym (ap excess_of source) ∙ sym c.in_ok-count.ensures ∙ c.in-Some.is })

pub loop-number-preserved : goal.loop-number-preserved
loop-number-preserved c =
    let source = c.as_slice.ensures.value ∙ c.source.view_is ∙ c.index-sources-number.is in
    each_taken HasFewLocals c.args.sources.now c.loop-number.number c.index-sources-number.result c.loop-number-test.true c.loop-number.invariant
    (sym (ap excess_of source) ∙ sym c.in_ok-count.ensures ∙ none_is c.in_ok-count.field-0 c.in_default.not-Some)
