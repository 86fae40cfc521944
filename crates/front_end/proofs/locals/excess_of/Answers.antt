use Rattle.std.proofs.Common.{ap, sym, ◌∙◌}
use Rattle.front_end.specs.LocalCounts.{excess_of_module}
use Rattle.front_end.proofs.LocalLemmas.{none_is, none_more, some_at}
use Rattle.front_end.proofs.locals.excess_of.Goals as goal

pub returns-in-Some : goal.returns-in-Some
returns-in-Some c =
    sym (some_at excess_of_module c.args.modules.now c.loop-module.module-index c.module-item.result c.in-Some.count c.loop-module-test.true c.loop-module.invariant
    (sym (ap excess_of_module c.module-item.is) ∙ sym c.in_ok-count.ensures ∙ c.in-Some.is))

pub loop-module-preserved : goal.loop-module-preserved
loop-module-preserved c =
    none_more excess_of_module c.args.modules.now c.loop-module.module-index c.module-item.result c.loop-module-test.true c.loop-module.invariant
    (sym (ap excess_of_module c.module-item.is) ∙ sym c.in_ok-count.ensures ∙ none_is c.in_ok-count.field-0 c.in_default.not-Some)
