use Rattle.program.proofs.Firsts.{first_of_both}
use Rattle.typing_rules.specs.Required.{FunctionLacksAbility, StructLacksAbility}
use Rattle.type_check.specs.Split.{FunctionAt, StructAt}
use Rattle.type_check.proofs.Renamed.{abilities_named}
use Rattle.type_check.proofs.code.typed.ability_fault.Goals as goal

pub returns : goal.returns
returns c =
    let program = c.args.program.now in
    abilities_named program _
    (first_of_both (FunctionAt program (λ id f. FunctionLacksAbility program f)) (StructAt program (StructLacksAbility program)) c.in_ok-functions.functions c.in_ok-structs.structs _
    c.in_ok-functions.ensures c.in_ok-structs.ensures c.earlier.ensures)
