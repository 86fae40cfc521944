use Rattle.body_types.specs.Judged.{ReadsNodes}
use Rattle.body_types.proofs.Misfitting.{nodes_of_steps}
use Rattle.body_types.proofs.code.fitting.judge.Goals as goal

pub returns : goal.returns
returns c s has inside steps =
    let reads : ReadsNodes s c.args.body.now.nodes c.nodes_read-read.result = nodes_of_steps s c.args.body.now.nodes c.args.steps c.nodes_read-read.result c.nodes_read-read.ensures steps in
    record { reads = reads; misfits = c.misfits.ensures s has inside reads }
