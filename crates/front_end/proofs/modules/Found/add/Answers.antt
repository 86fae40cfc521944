use Rattle.std.proofs.Common.{◌++◌, ◌∷◌, [], ap, sym, subst, ◌∙◌}
use Rattle.base.specs.declared.span.Span.{Span}
use Rattle.sum_tree.specs.SumModuleData.{SumModuleData}
use Rattle.front_end.specs.Modules.{HasUnbuilt}
use Rattle.front_end.proofs.ModuleLemmas.{read_new, taken_again}
use Rattle.front_end.proofs.modules.Found.add.Goals as goal

pub returns : goal.returns
returns c = λ before a.
    let address = ap (λ (f : SumModuleData). f.address) c.found.view_is in
    let name = c.in_ok-try_clone.ensures ∙ ap (λ (f : SumModuleData). f.name) c.found.view_is in
    read_new before c.args.self.now.modules.items c.push.new.self.items c.args.self.now.taken c.insert.new.self c.args.file c.args.source_module.now c.in-Ok.found
    (c.found.inside.address, c.in_ok-try_clone.field-0) c.in_ok-insert.field-0 a c.in-Ok.ensures
    (λ i. (address i, name i)) c.in_ok-insert.ensures.added c.if-not-branch.false c.in_ok-insert.ensures.updates.0 c.in_ok-push.ensures.items

pub returns-then-not-branch : goal.returns-then-not-branch
returns-then-not-branch c = λ before a.
    let address = ap (λ (f : SumModuleData). f.address) c.found.view_is in
    let name = c.in_ok-try_clone.ensures ∙ ap (λ (f : SumModuleData). f.name) c.found.view_is in
    subst (HasUnbuilt (before ++ (c.args.file, c.args.source_module.now) ∷ []) c.args.file) (sym c.breaks-fault-then-not-branch.ensures)
    (taken_again before c.args.self.now.modules.items c.args.self.now.taken c.args.file c.args.source_module.now c.in-Ok.found _ (c.found.inside.address, c.in_ok-try_clone.field-0) c.in_ok-insert.field-0 a c.in-Ok.ensures
    (λ i. (address i, name i)) c.in_ok-insert.ensures.added c.if-not-branch.true (ap (λ (s : Span). s.start) c.module_span.ensures))
