use Rattle.unification.proofs.Options.{at_none, at_some}
use Rattle.body_types.specs.Fitting.{IsNoNumber, IsNumber}
use Rattle.body_types.proofs.Misfitting.{no_number, number_at}
use Rattle.body_types.proofs.code.fitting.misfit_at.Goals as goal

pub returns-in-Some : goal.returns-in-Some
returns-in-Some c s has lt = number_at s c.args.body.now.nodes c.args.index c.in-Some.value c.node.result.now c.number_misfits.result c.node.ensures.node
    (at_some c.written_number.result (IsNoNumber c.node.result.now) (IsNumber c.node.result.now) c.in-Some.value c.in-Some.is c.written_number.ensures) (c.number_misfits.ensures s has lt)

pub returns-in-None : goal.returns-in-None
returns-in-None c s has lt = no_number s c.args.body.now.nodes c.args.index c.node.result.now c.node.ensures.node
    (at_none c.written_number.result (IsNoNumber c.node.result.now) (IsNumber c.node.result.now) c.in-None.is c.written_number.ensures)
