use Rattle.type_constraints.proofs.TypedNodesReading.{typed_read}
use Rattle.type_constraints.proofs.typed_nodes.law.all_read.Goals as goal

pub returns : goal.returns
returns c = typed_read
