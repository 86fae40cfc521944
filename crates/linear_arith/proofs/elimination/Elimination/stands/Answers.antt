use Rattle.std.proofs.Common.{sym, ◌∙◌}
use Rattle.linear_arith.proofs.elimination.Elimination.stands.Goals as goal

pub returns : goal.returns
returns c = λ t. record { key = c.in_ok-key.key; numbers = c.in_ok-key.ensures; stands = sym c.contains.ensures ∙ t }
