use Rattle.std.proofs.Common.{arith}
use Rattle.type_check.proofs.clauses.arguments.number_of.Goals as goal

pub returns-in-None : goal.returns-in-None
returns-in-None c s pool says of h = c.in-None.ensures s pool says h.typing h.settled.defaulted.typing

pub returns-then-variable-count : goal.returns-then-variable-count
returns-then-variable-count c s pool says =
    c.type_of.ensures s pool says (let below = c.if-variable-count.true in let same = c.in-Some.ensures s pool says in omega (arith, below, same))
