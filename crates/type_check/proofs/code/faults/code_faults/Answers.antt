use Rattle.std.proofs.Common.{◌⊎◌}
use Rattle.program.proofs.Firsts.{first_of_both}
use Rattle.type_check.specs.Split.{ConstantAt, ConstantBreaks, ConstantIsOpen, FunctionAt, FunctionBreaks, FunctionIsOpen, StructAt, StructBreaks}
use Rattle.type_check.proofs.code.faults.code_faults.Goals as goal

pub returns-clause-untyped : goal.returns-clause-untyped
returns-clause-untyped c =
    let program = c.args.program.now in
    first_of_both (FunctionAt program (FunctionBreaks program)) (λ span. ConstantAt program (ConstantBreaks program) span ⊎ StructAt program (StructBreaks program) span)
    c.function_faults-functions.result.untyped c.earlier-later.result _ c.function_faults-functions.ensures.untyped
    (first_of_both (ConstantAt program (ConstantBreaks program)) (StructAt program (StructBreaks program)) c.in_ok-constants.constants.untyped c.struct_fault-fields.result c.earlier-later.result
    c.in_ok-constants.ensures.untyped c.struct_fault-fields.ensures c.earlier-later.ensures)
    c.earlier.ensures

pub returns-clause-unsettled : goal.returns-clause-unsettled
returns-clause-unsettled c =
    let program = c.args.program.now in
    first_of_both (FunctionAt program (FunctionIsOpen program)) (ConstantAt program (ConstantIsOpen program))
    c.function_faults-functions.result.unsettled c.in_ok-constants.constants.unsettled _ c.function_faults-functions.ensures.unsettled c.in_ok-constants.ensures.unsettled
    c.earlier-2.ensures
