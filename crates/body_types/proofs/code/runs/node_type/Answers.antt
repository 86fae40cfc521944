use Rattle.std.proofs.lemmas.Result.{IfOk-weaker}
use Rattle.unification.proofs.Options.{at_none}
use Rattle.body_types.specs.Fitting.{IsNoNumber, IsNumber}
use Rattle.body_types.proofs.Running.{type_of_number, type_of_none}
use Rattle.body_types.proofs.code.runs.node_type.Goals as goal

pub returns-in-Some-clause-is : goal.returns-in-Some-clause-is
returns-in-Some-clause-is c = IfOk-weaker c.number_type.result _ _ (λ number h s has lt. type_of_number s c.args.body.now.nodes c.args.index number (h s has lt)) c.number_type.ensures.is

pub returns-in-None-clause-is : goal.returns-in-None-clause-is
returns-in-None-clause-is c s has lt = type_of_none s c.args.body.now.nodes c.args.index 0 c.node.result.now c.node.ensures.node
    (at_none c.written_number.result (IsNoNumber c.node.result.now) (IsNumber c.node.result.now) c.in-None.is c.written_number.ensures)
