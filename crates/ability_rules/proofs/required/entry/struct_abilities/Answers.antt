use Rattle.std.proofs.Common.{List, Option, ◌∙◌, ap}
use Rattle.program.specs.declared.declaration.AbilitySet.{AbilitySet}
use Rattle.program.specs.declared.declaration.Struct.{Struct}
use Rattle.program.specs.declared.declaration.TypeParameter.{TypeParameter}
use Rattle.program.specs.Types.{applied, declared_applied}
use Rattle.ability_rules.specs.Entries.{common_known, judged_at}
use Rattle.ability_rules.proofs.required.entry.struct_abilities.Goals as goal

pub returns-in-Some : goal.returns-in-Some
returns-in-Some c =
    let found = c.in-Some.found.now in
    let of_all = λ (parameters : List TypeParameter). common_known (judged_at c.args.table.now) parameters 0 c.args.parts.now in
    c.applied.ensures
    ∙ ap (λ (a : AbilitySet). applied found.abilities a) (c.common.ensures ∙ ap of_all c.as_slice-parameters.ensures)
    ∙ ap (λ (o : Option Struct). declared_applied o of_all) c.in-Some.ensures
