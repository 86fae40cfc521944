use Rattle.std.proofs.Common.{◌+◌, take, sym, subst}
use Rattle.base.specs.Pairs.{Paired}
use Rattle.driver.specs.Verified.{IsConditionRecord}
use Rattle.driver.proofs.PairLemmas.{paired_more}
use Rattle.driver.proofs.verify.verify_conditions.Goals as goal

pub loop-condition-preserved : goal.loop-condition-preserved
loop-condition-preserved g c = λ bytes e.
    let i = c.loop-condition.condition-index in
    let found = c.in_ok-verify_condition.field-0 in
    let here : IsConditionRecord bytes c.args.file c.args.parameters.now c.condition-item.result found = c.in_ok-verify_condition.ensures bytes e in
    subst (λ ys. Paired (IsConditionRecord bytes c.args.file c.args.parameters.now) (take (i + 1) c.args.conditions.now) ys) (sym c.in_ok-push.ensures.items)
    (paired_more (IsConditionRecord bytes c.args.file c.args.parameters.now) c.args.conditions.now i c.condition-item.result c.loop-condition.found.items found c.loop-condition-test.true (c.loop-condition.invariant bytes e)
    (subst (λ v. IsConditionRecord bytes c.args.file c.args.parameters.now v found) c.condition-item.is here))
