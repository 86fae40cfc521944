use Rattle.type_check.proofs.Chains.{all_shallow}
use Rattle.type_check.proofs.Rules.{first_unsettled, first_untyped}
use Rattle.std.proofs.Common.{sym, subst}
use Rattle.type_check.proofs.Placing.{if_ok_map}
use Rattle.type_check.specs.declared.schemas.broken.JudgedInstances.{JudgedInstances}
use Rattle.type_check.specs.Included.{AreIncluded}
use Rattle.type_check.proofs.typing.check_determined.Goals as goal

pub judge_specifications-requires-clause-shallow : goal.judge_specifications-requires-clause-shallow
judge_specifications-requires-clause-shallow c = all_shallow c.args.program.now c.requires.acyclic

pub returns-clause-determined : goal.returns-clause-determined
returns-clause-determined c =
    let program = c.args.program.now in
    let code = c.in_ok-code.code in
    let spec = c.in_ok-specifications.specifications.faults in
    c.determined_by.ensures.determined program
    (first_untyped program code.untyped spec.untyped c.earlier-untyped.result c.in_ok-code.ensures.untyped c.in_ok-specifications.ensures.untyped c.earlier-untyped.ensures)
    (first_unsettled program code.unsettled spec.unsettled c.earlier-unsettled.result c.in_ok-code.ensures.unsettled c.in_ok-specifications.ensures.unsettled c.earlier-unsettled.ensures)

pub returns-clause-included : goal.returns-clause-included
returns-clause-included c =
    if_ok_map c.determined_by.result (λ found same. subst (λ (i : JudgedInstances). AreIncluded c.args.program.now i) (sym same) c.in_ok-specifications.ensures.instances) c.determined_by.ensures.same
