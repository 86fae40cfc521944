use Rattle.std.proofs.Common.{arith}
use Rattle.std.proofs.lemmas.Result.{IfOk-weaker}
use Rattle.type_solver.proofs.CodeSystemsWhole.{all_walked}
use Rattle.type_solver.proofs.code_systems.systems.read_function.Goals as goal

pub returns-in-Some-clause-walked : goal.returns-in-Some-clause-walked
returns-in-Some-clause-walked c = IfOk-weaker c.read_first_nodes.result _ _
    (λ walk is. all_walked c.args.program.now c.args.function.now c.in-Some.count walk.slots.items walk.progress (omega arith) is)
    c.read_first_nodes.ensures.walked
