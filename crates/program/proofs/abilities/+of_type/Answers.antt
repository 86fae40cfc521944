use Rattle.std.proofs.Common.{List, Option, ◌∙◌, ap}
use Rattle.base.specs.TypeData.{types_of}
use Rattle.program.specs.declared.declaration.AbilitySet.{AbilitySet}
use Rattle.program.specs.declared.declaration.Struct.{Struct}
use Rattle.program.specs.declared.declaration.TypeParameter.{TypeParameter}
use Rattle.program.specs.Types.{applied, common, declared_applied}
use Rattle.program.proofs.abilities.+of_type.Goals as goal

pub of_struct-returns-in-Some : goal.of_struct-returns-in-Some
of_struct-returns-in-Some t c =
    let found = c.in-Some.found.now in
    let of_all = λ (parameters : List TypeParameter). common c.args.structs.now c.args.params.now parameters 0 (types_of c.args.types.now) in
    c.applied.ensures
    ∙ ap (λ (a : AbilitySet). applied found.abilities a) (c.common.ensures ∙ ap of_all c.as_slice-parameters.ensures)
    ∙ ap (λ (o : Option Struct). declared_applied o of_all) c.in-Some.ensures
