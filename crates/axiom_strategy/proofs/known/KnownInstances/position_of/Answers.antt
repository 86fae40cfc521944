use Rattle.std.proofs.Common.{sym, ◌∙◌, subst}
use Rattle.indexmap.proofs.CallerLemmas.{insert_entry-new}
use Rattle.axiom_strategy.specs.Known.{AreKnownInstances}
use Rattle.axiom_strategy.proofs.KnownLemmas.{no_list, found_list, more_known, last_list}
use Rattle.axiom_strategy.proofs.known.KnownInstances.position_of.Goals as goal

pub returns-in-Some-clause-all : goal.returns-in-Some-clause-all
returns-in-Some-clause-all c =
    let shapes = c.args.shapes.now in
    let ns = c.args.pool.now in
    let all = found_list shapes ns c.self.inside.lists.entries (subst (AreKnownInstances shapes ns) (sym c.self.view_is) c.requires.known) c.args.asker c.in-Some.position c.in-Some.ensures.value c.in-Some.ensures.found in
    rw c.self.view_is at all

pub returns-clause-known : goal.returns-clause-known
returns-clause-known c =
    let shapes = c.args.shapes.now in
    let ns = c.args.pool.now in
    let lists = c.self.inside.lists in
    let items = c.in_ok-items.items.items in
    more_known shapes ns lists.entries (subst (AreKnownInstances shapes ns) (sym c.self.view_is) c.requires.known) c.args.asker c.instances_of.new.pool c.instances_of.ensures.extends c.requires.asker items c.in_ok-items.ensures.all c.insert.new.self.entries
    (c.in_ok-insert.ensures.entries ∙ insert_entry-new _ lists c.args.asker items (no_list _ c.in_default.ensures.found))

pub returns-clause-all : goal.returns-clause-all
returns-clause-all c =
    let shapes = c.args.shapes.now in
    let ns = c.args.pool.now in
    let lists = c.self.inside.lists in
    let items = c.in_ok-items.items.items in
    last_list shapes ns lists.entries (subst (AreKnownInstances shapes ns) (sym c.self.view_is) c.requires.known) c.args.asker c.instances_of.new.pool c.instances_of.ensures.extends c.requires.asker items c.in_ok-items.ensures.all c.insert.new.self.entries
    (c.in_ok-insert.ensures.entries ∙ insert_entry-new _ lists c.args.asker items (no_list _ c.in_default.ensures.found)) c.len-position.result c.len-position.ensures.len
