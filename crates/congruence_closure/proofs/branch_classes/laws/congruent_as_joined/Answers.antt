use Rattle.congruence_closure.proofs.BranchClassesExactLemmas.{exactly_joined}
use Rattle.congruence_closure.proofs.branch_classes.laws.congruent_as_joined.Goals as goal

pub returns : goal.returns
returns c = λ d b i j t u classes nodes equations m n. exactly_joined d.nodes d.equations d.names d.links classes nodes b equations i j t u m n
