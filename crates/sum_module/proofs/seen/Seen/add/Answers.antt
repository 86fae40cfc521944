use Rattle.std.proofs.Common.{ap, sym, ◌∙◌, ◌++◌, ◌∷◌, []}
use Rattle.base.proofs.NameLaws.{set_more}
use Rattle.base.specs.Names.{is_one_of}
use Rattle.base.specs.Names.{has}
use Rattle.sum_module.specs.Members.{name_of_form}
use Rattle.sum_module.proofs.seen.Seen.add.Goals as goal

pub returns-in_ok-insert : goal.returns-in_ok-insert
returns-in_ok-insert c = λ names same name.
    set_more names c.in_ok-try_clone.field-0 name (has c.self.inside.names name) (has c.insert.new.self name) (ap (λ s. has s name) c.self.view_is ∙ same name) (c.in_ok-insert.ensures.updates.0 name)
    ∙ ap (λ more. is_one_of (names ++ more) name) (ap (λ key. key ∷ []) c.in_ok-try_clone.ensures ∙ sym (ap name_of_form c.in-Function.is))
