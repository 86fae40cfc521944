use Rattle.explanations.proofs.BranchLemmas.{a_graph}
use Rattle.explanations.proofs.derived.laws.classes_are_graphs.Goals as goal

pub returns : goal.returns
returns c = λ pool d classes over inside low. a_graph pool d over classes inside low
