use Rattle.std.proofs.Common.{◌+◌, List, take, sym, subst}
use Rattle.base.specs.Pairs.{Paired}
use Rattle.report.specs.ReportData.{ParameterValueData}
use Rattle.driver.specs.OpenValues.{IsParameterValue}
use Rattle.driver.proofs.PairLemmas.{paired_more}
use Rattle.driver.proofs.verify.values.values_of.Goals as goal

pub loop-name-preserved : goal.loop-name-preserved
loop-name-preserved c =
    let i = c.loop-name.name-index in
    let R = IsParameterValue c.args.pool.now c.args.values.now c.args.parameters.now in
    let found = c.in_ok-parameter_value.field-0 in
    subst (λ ys. Paired R (take (i + 1) c.args.parameters.now) ys) (sym {A = List ParameterValueData} c.in_ok-push.ensures.items)
    (paired_more R c.args.parameters.now i c.name-item.result c.loop-name.found.items found c.loop-name-test.true c.loop-name.invariant
    (subst (λ v. R v found) c.name-item.is c.in_ok-parameter_value.ensures))
