use Rattle.certificates.proofs.TreesOfMoves.{accepted_tree}
use Rattle.certificates.proofs.bytes.laws.accepted_are_trees.Goals as goal

pub returns : goal.returns
returns c = accepted_tree
