use Rattle.std.proofs.Common.{◌≡◌, ◌∙◌, ap, subst}
use Rattle.std.specs.Prelude.{IfOk}
use Rattle.program.specs.declared.declaration.Module.{Module}
use Rattle.program.specs.declared.program.ModuleId.{ModuleId}
use Rattle.scopes.specs.EnvironmentData.{EnvironmentData}
use Rattle.scopes.specs.Uses.{Uses, all_uses, uses_among, uses_in_order}
use Rattle.scopes.proofs.Entries.{counted}
use Rattle.scopes.proofs.module_uses.uses_of.Goals as goal

pub returns-clause-uses : goal.returns-clause-uses
returns-clause-uses c =
    subst (λ (all : Uses). IfOk c.uses_in_order.result (λ uses. uses.items ≡ uses_in_order all c.args.program.now))
    (c.in_ok-all.ensures ∙ ap (λ (env : EnvironmentData). all_uses env c.args.sources.now) c.in_ok-environment.ensures)
    c.uses_in_order.ensures

pub returns-clause-count : goal.returns-clause-count
returns-clause-count c = counted c.uses_in_order.result (λ v. v.items) (λ (m : ModuleId × Module). uses_among _ m.0) c.args.program.now.modules c.uses_in_order.ensures
