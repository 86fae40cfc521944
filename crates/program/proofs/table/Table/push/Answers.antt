use Rattle.std.proofs.Common.{◌∙◌, ◌≡◌, ◌++◌, ◌∷◌, [], None, ap}
use Rattle.std.specs.Map.{lookup}
use Rattle.indexmap.proofs.CallerLemmas.{insert_entry-new}
use Rattle.program.proofs.table.Table.push.Goals as goal

pub returns-clause-ok : goal.returns-clause-ok
returns-clause-ok g c =
    let none : lookup (g.K.PartialEq.eq c.args.name) c.self.inside.map.entries ≡ None = rw c.self.view_is c.requires in
    c.in_ok-insert.ensures.entries ∙ insert_entry-new _ c.self.inside.map c.args.name c.args.declaration none ∙ ap (λ es. es ++ (c.args.name, c.args.declaration) ∷ []) c.self.view_is
