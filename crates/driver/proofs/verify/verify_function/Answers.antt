use Rattle.std.proofs.Common.{sym, ap, subst, ◌∙◌}
use Rattle.ref_sem.specs.Bodies.{HasU64Body}
use Rattle.sum_tree.specs.SumFunctionData.{SumFunctionData}
use Rattle.sum_tree.specs.SpecifiedData.{SpecifiedFunctionData}
use Rattle.sum_tree.specs.SumModuleData.{SumModuleData}
use Rattle.vc_gen.specs.Decided.{Decide}
use Rattle.vc_gen.specs.Keys.{keys_of}
use Rattle.base.specs.Pairs.{Paired}
use Rattle.driver.specs.Verified.{IsConditionRecord}
use Rattle.driver.proofs.Records.{function_record}
use Rattle.driver.proofs.verify.verify_function.Goals as goal

pub returns : goal.returns
returns g c = λ bytes e.
    let m : SumModuleData = c.args.sum_module.now in
    let f : SpecifiedFunctionData = c.args.specified.now in
    let function = ap (λ (s : SpecifiedFunctionData). s.function) c.specified.view_is in
    let clauses = c.as_slice.ensures.value ∙ ap (λ (s : SpecifiedFunctionData). s.clauses) c.specified.view_is in
    let names = c.as_slice-2.ensures.value ∙ ap (λ (h : SumFunctionData). h.parameters) (c.function.view_is ∙ function) in
    let made = c.in_ok-claims.ensures.keys ∙ (λ i. keys_of (function i) (clauses i)) in
    let decide : Decide f.function f.clauses c.in_ok-claims.claims.items = subst (λ cs. Decide f.function cs c.in_ok-claims.claims.items) clauses (subst (λ h. Decide h c.as_slice.result.now c.in_ok-claims.claims.items) function (c.in_ok-claims.ensures.decide (subst HasU64Body (sym function) c.requires.body))) in
    let paired = subst (λ k. Paired (IsConditionRecord bytes k c.as_slice-2.result.now) c.as_slice-3.result.now c.in_ok-found.found.items) (ap (λ (n : SumModuleData). n.file) c.sum_module.view_is) (c.in_ok-found.ensures bytes e) in
    function_record bytes m f c.in_ok-claims.claims.items c.as_slice-3.result.now c.as_slice-4.result.now _ c.as_slice-2.result.now names made decide c.as_slice-3.ensures.value paired c.as_slice-4.ensures.value c.verdict_of_function-verdict.ensures
    (ap (λ (n : SumModuleData). n.address) c.sum_module.view_is)
    (c.in_ok-module_name.ensures ∙ ap (λ (n : SumModuleData). n.name) c.sum_module.view_is)
    (c.in_ok-name.ensures ∙ ap (λ (h : SumFunctionData). h.name) (c.function.view_is ∙ function))
