use Rattle.std.proofs.Common.{[], ◌∷◌, ◌++◌, refl, ap, ◌∙◌}
use Rattle.std.specs.List.{filter_map}
use Rattle.resolution.specs.Parts.{here_of}
use Rattle.resolution.specs.Programs.{ModuleTree, declarations_from, friend_of_member}
use Rattle.resolution.proofs.TableLaws.{both_entered, one_entered}
use Rattle.resolution.proofs.modules.own_module.Goals as goal

pub returns-clause-entered : goal.returns-clause-entered
returns-clause-entered c =
    let w = here_of c.args.context.now in
    let parts = c.in_ok-parts.ensures.parts in
    let owners = c.in_ok-parts.ensures.owners in
    let settings = c.settings_of_module-of_module.ensures in
    let members = c.in_ok-owned.ensures.entered w parts owners settings in
    let clauses = c.in_ok-owned.ensures.last w parts owners settings in
    let friends = c.in_ok-parts.ensures.friends ∙ ap (λ fs. fs ++ filter_map (friend_of_member w) w.members) c.new-friends.ensures in
    both_entered (declarations_from w 0 w.members) (ModuleTree w c.args.at ∷ []) c.args.program.now c.enter_parts.new.program c.put_into.new.program members
    (one_entered (ModuleTree w c.args.at) _ c.enter_parts.new.program c.put_into.new.program
    (record { id_is = c.in_ok-id.ensures ∙ c.own.ensures; span_is = refl; friends = friends; clauses = clauses }) c.in_ok-put_into.ensures)
