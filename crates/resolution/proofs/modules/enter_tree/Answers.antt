use Rattle.std.proofs.Common.{◌≡◌, Some, sym, ap, subst, ◌∙◌}
use Rattle.syntax_tree.specs.SourceModuleData.{SourceModuleData}
use Rattle.scopes.specs.Meanings.{module_meaning}
use Rattle.resolution.specs.declared.fault.DeclarationFault.{DeclarationFault}
use Rattle.resolution.specs.Faults.{IsFaultAmong}
use Rattle.resolution.specs.Items.{AreKnown, items_in, module_items}
use Rattle.resolution.specs.Known.{KnownData}
use Rattle.resolution.specs.Modules.{IsKnown, IsWithin}
use Rattle.resolution.proofs.ProgramLaws.{if_err, on_ok, same_module_meaning}
use Rattle.resolution.proofs.modules.enter_tree.Goals as goal

pub returns-in-Ok-clause-known : goal.returns-in-Ok-clause-known
returns-in-Ok-clause-known c =
    let env = c.args.environment.now in
    let m = c.args.tree.now in
    on_ok c.enter_own.result (λ h k within is_known.
    let meaning : module_meaning k.environment m.name ≡ Some c.in-Ok.own = sym (same_module_meaning k env m.name within) ∙ ap (λ (x : SourceModuleData). module_meaning env x.name) (sym c.tree.view_is) ∙ c.in-Ok.ensures in
    subst (λ o. AreKnown (items_in k m o)) (sym meaning) (h k within is_known)) c.enter_own.ensures.known

pub returns-in-Ok-clause-unknown : goal.returns-in-Ok-clause-unknown
returns-in-Ok-clause-unknown c =
    let env = c.args.environment.now in
    let m = c.args.tree.now in
    let known = c.args.known.now in
    let P : DeclarationFault → Type 0 = λ fault. (k : KnownData) → IsWithin k env → IsKnown k known → IsFaultAmong (items_in k m (Some c.in-Ok.own)) fault in
    let Q : DeclarationFault → Type 0 = λ fault. (k : KnownData) → IsWithin k env → IsKnown k known → IsFaultAmong (module_items k m) fault in
    if_err c.enter_own.result P Q (λ fault h k within is_known.
    let meaning : module_meaning k.environment m.name ≡ Some c.in-Ok.own = sym (same_module_meaning k env m.name within) ∙ ap (λ (x : SourceModuleData). module_meaning env x.name) (sym c.tree.view_is) ∙ c.in-Ok.ensures in
    subst (λ o. IsFaultAmong (items_in k m o) fault) (sym meaning) (h k within is_known)) c.enter_own.ensures.unknown
