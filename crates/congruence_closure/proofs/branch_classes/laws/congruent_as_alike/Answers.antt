use Rattle.congruence_closure.proofs.BranchClassesExactLemmas.{exactly_alike}
use Rattle.congruence_closure.proofs.branch_classes.laws.congruent_as_alike.Goals as goal

pub returns : goal.returns
returns c = λ d b i j p q classes nodes equations m n. exactly_alike d.nodes d.equations d.names d.links classes nodes b equations i j p q m n
