use Rattle.std.proofs.Common.{ap}
use Rattle.certificates.specs.LinearView.{part_of}
use Rattle.certificates.proofs.LinearLemmas.{weight_same, weight_other}
use Rattle.certificates.proofs.linear.unknown_weight.Goals as goal

pub returns-then-same_term : goal.returns-then-same_term
returns-then-same_term c =
    weight_same _ _ _ _ (ap part_of c.in-Coefficient.is) c.same_term.ensures c.if-same_term.true

pub returns-else-same_term : goal.returns-else-same_term
returns-else-same_term c =
    weight_other _ _ _ _ (ap part_of c.in-Coefficient.is) c.same_term.ensures c.if-same_term.false
