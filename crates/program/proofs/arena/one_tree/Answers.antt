use Rattle.program.proofs.ListedLaws.{trees-nodes_of, one_tree}
use Rattle.program.proofs.arena.one_tree.Goals as goal

pub returns-clause-trees : goal.returns-clause-trees
returns-clause-trees g c = trees-nodes_of

pub returns-clause-one : goal.returns-clause-one
returns-clause-one g c = one_tree
