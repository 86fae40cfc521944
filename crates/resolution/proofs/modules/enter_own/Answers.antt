use Rattle.std.proofs.Common.{◌≡◌, [], refl, ap, subst, ◌∙◌}
use Rattle.syntax_tree.specs.SourceModuleData.{SourceModuleData}
use Rattle.scopes.specs.EnvironmentData.{entered}
use Rattle.scopes.specs.Brings.{environment_of}
use Rattle.resolution.specs.declared.fault.DeclarationFault.{DeclarationFault}
use Rattle.resolution.specs.Faults.{IsFaultAmong}
use Rattle.resolution.specs.Items.{Here, here, items_behind}
use Rattle.resolution.specs.Known.{KnownData, inside}
use Rattle.resolution.specs.Modules.{IsKnown, IsWithin}
use Rattle.resolution.proofs.ProgramLaws.{here_is, if_err, inside_is}
use Rattle.resolution.proofs.modules.enter_own.Goals as goal

pub returns-clause-unknown : goal.returns-clause-unknown
returns-clause-unknown c =
    let env = c.args.environment.now in
    let m = c.args.tree.now in
    let known = c.args.known.now in
    let first : c.deref.result.now ≡ m.members = c.deref.ensures.value ∙ ap (λ (x : SourceModuleData). x.members) c.tree.view_is in
    let third : c.deref-3.result.now ≡ m.members = c.deref-3.ensures.value ∙ ap (λ (x : SourceModuleData). x.members) c.tree.view_is in
    let w : Here = record { environment = c.enter_module.new.environment; modules = known.modules.keys; schemas = known.schemas; members = c.deref-3.result.now } in
    let P : DeclarationFault → Type 0 = λ fault. IsFaultAmong (items_behind w [] w.members) fault in
    let Q : DeclarationFault → Type 0 = λ fault. (k : KnownData) → IsWithin k env → IsKnown k known → IsFaultAmong (items_behind (here k c.args.own m.members) [] m.members) fault in
    if_err c.own_module.result P Q (λ fault h k within is_known.
    let inner : w.environment ≡ inside k c.args.own m.members = c.in_ok-enter_module.ensures ∙ ap (environment_of (entered env c.args.own)) first ∙ inside_is k env c.args.own m within in
    let same : w ≡ here k c.args.own m.members = here_is k known env c.args.own m w is_known inner refl refl third in
    subst (λ ms. IsFaultAmong (items_behind (here k c.args.own m.members) [] ms) fault) third (subst (λ (x : Here). IsFaultAmong (items_behind x [] w.members) fault) same h)) c.own_module.ensures.unknown
