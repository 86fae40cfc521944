use Rattle.std.proofs.Common.{◌≡◌, Some, ap, subst, ◌∙◌, inr, rules}
use Rattle.syntax_tree.specs.SourceModuleData.{SourceModuleData}
use Rattle.sum_module.specs.Built.{IsFirstUnbuilt, IsUnbuiltAt, address_of}
use Rattle.sum_module.specs.Fault.{IfNotBuiltAt}
use Rattle.sum_module.proofs.FaultLemmas.{hands_on}
use Rattle.sum_module.proofs.module.read_module.Goals as goal

pub returns-in_err-members : goal.returns-in_err-members
returns-in_err-members c =
    let is : address_of c.args.source_module.now.name.address ≡ Some c.in-Some.address = search rules in
    let members = c.deref.ensures.value ∙ ap (λ (m : SourceModuleData). m.members) c.source_module.view_is in
    hands_on c.from_residual.result _ _ _ (IsUnbuiltAt c.args.source_module.now) c.from_residual.ensures.1
    (λ offset first. inr (record { address = c.in-Some.address; address_is = is; first = first }))
    (subst (λ ms. IfNotBuiltAt c.in_err-members.field-0.0 (IsFirstUnbuilt ms)) members c.in_err-members.ensures)
