use Rattle.std.proofs.Common.{sym, arith, ◌-◌}
use Rattle.typing_rules.specs.CodeConstraints.{has}
use Rattle.typing_rules.specs.Instances.{spec_type}
use Rattle.type_constraints.proofs.Last.{last_some}
use Rattle.type_constraints.proofs.clauses.function.returned.Goals as goal

pub returns-else-count-eq0 : goal.returns-else-count-eq0
returns-else-count-eq0 c =
    sym (last_some (λ n. has n (spec_type c.args.function.now.result)) c.args.function.now.body.nodes (c.len-count.result - 1) (omega arith))
