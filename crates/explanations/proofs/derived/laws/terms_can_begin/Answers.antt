use Rattle.explanations.proofs.BranchLemmas.{begins}
use Rattle.explanations.proofs.derived.laws.terms_can_begin.Goals as goal

pub returns : goal.returns
returns c = λ pool d b chain of inside low has is. record { each = λ i w t. begins pool d of.over b chain inside low of has is i w t }
