use Rattle.std.proofs.Common.{◌≡◌, ◌+◌, List, take, sym, subst, ap, ◌∙◌}
use Rattle.sum_tree.specs.SpecifiedData.{SpecifiedFunctionData}
use Rattle.sum_tree.specs.SumModuleData.{SumModuleData}
use Rattle.report.specs.ReportData.{FunctionRecordData}
use Rattle.driver.specs.Pairs.{ArePutBehind}
use Rattle.driver.specs.Verified.{IsFunctionRecord}
use Rattle.driver.proofs.PairLemmas.{one_behind}
use Rattle.driver.proofs.verify.verify_module.Goals as goal

pub loop-specified-preserved : goal.loop-specified-preserved
loop-specified-preserved g c = λ bytes e.
    let R : SpecifiedFunctionData → FunctionRecordData → Type 0 = IsFunctionRecord bytes c.args.sum_module.now in
    let i = c.loop-specified.specified-index in
    let shown : List SpecifiedFunctionData = c.deref-specified-items.result.now in
    let same : shown ≡ c.args.sum_module.now.functions = c.deref-specified-items.ensures.value ∙ ap (λ (m : SumModuleData). m.functions) c.sum_module.view_is in
    let before : List FunctionRecordData = c.args.records.now.items in
    let found : FunctionRecordData = c.in_ok-verify_function.field-0 in
    subst (λ xs. ArePutBehind R (take (i + 1) xs) before c.push.new.self.items) same
    (one_behind R shown i c.specified-item.result found before c.loop-specified.records.items c.push.new.self.items c.loop-specified-test.true c.in_ok-push.ensures.items
    (subst (λ v. R v found) c.specified-item.is (c.in_ok-verify_function.ensures bytes e))
    (subst (λ xs. ArePutBehind R (take i xs) before c.loop-specified.records.items) (sym same) (c.loop-specified.invariant bytes e)))
