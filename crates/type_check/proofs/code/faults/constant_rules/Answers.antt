use Rattle.typing_rules.specs.CodeSystems.{constant_system}
use Rattle.typing_rules.specs.Faults.{RunFails}
use Rattle.type_check.specs.Split.{IsIllTyped}
use Rattle.type_check.proofs.Typings.{either}
use Rattle.type_check.proofs.code.faults.constant_rules.Goals as goal

pub returns-clause-untyped : goal.returns-clause-untyped
returns-clause-untyped c =
    let program = c.args.program.now in
    let constant = c.args.constant.now in
    either c.is_ill_typed-ill.result c.in_ok-fails.fails (IsIllTyped (constant_system program constant) constant.value.nodes) (RunFails program constant)
    (c.is_ill_typed-ill.ensures (constant_system program constant) constant.value.nodes _ c.in_ok-typing.ensures.says) c.in_ok-fails.ensures

pub returns-clause-unsettled : goal.returns-clause-unsettled
returns-clause-unsettled c =
    let program = c.args.program.now in
    let constant = c.args.constant.now in
    c.is_ambiguous.ensures (constant_system program constant) constant.value.nodes _ c.in_ok-typing.ensures.says
