use Rattle.std.proofs.Common.{◌≡◌, Some, None, sym, ap, ◌∙◌}
use Rattle.sum_read.specs.Functions.{parameter_name}
use Rattle.sum_read.proofs.EachLemmas.{each_more, each_none, hands_on}
use Rattle.sum_read.proofs.function.parameter_names.Goals as goal

pub returns-in_err-parameter_name : goal.returns-in_err-parameter_name
returns-in_err-parameter_name c =
    hands_on c.from_residual.result _ _ (parameter_name c.parameter-item.result ≡ None) _ c.from_residual.ensures.1
    (λ none. each_none parameter_name c.args.parameters.now c.loop-parameter.parameter-index c.parameter-item.result c.loop-parameter-test.true (ap parameter_name (sym c.parameter-item.is) ∙ none)) c.in_err-parameter_name.ensures

pub loop-parameter-preserved : goal.loop-parameter-preserved
loop-parameter-preserved c =
    each_more parameter_name c.args.parameters.now c.loop-parameter.parameter-index c.parameter-item.result _ c.in_ok-parameter_name.field-0 c.loop-parameter-test.true c.loop-parameter.invariant (ap parameter_name (sym c.parameter-item.is) ∙ c.in_ok-parameter_name.ensures) ∙ ap (λ ys. Some ys) (sym c.in_ok-push.ensures.items)
