use Rattle.std.proofs.Common.{◌∷◌, [], ◌++◌, ap, ◌∙◌}
use Rattle.body_names.specs.OuterNames.{with_meanings}
use Rattle.body_names.proofs.NameListLaws.{with_meanings_next}
use Rattle.body_names.proofs.spec.outer.Outer.enter.Goals as goal

pub returns-clause-ok : goal.returns-clause-ok
returns-clause-ok c =
    let names = c.in_ok-push_both.ensures.names in
    let meanings = c.in_ok-push_both.ensures.meanings in
    (λ i. with_meanings (names i) (meanings i))
    ∙ with_meanings_next c.self.inside.names c.self.inside.meanings.items c.args.name.name c.args.name.meaning c.self.invariant
    ∙ ap (λ os. os ++ c.args.name ∷ []) c.self.view_is
