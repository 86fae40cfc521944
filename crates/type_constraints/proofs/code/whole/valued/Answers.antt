use Rattle.std.proofs.Common.{sym, arith, ◌-◌}
use Rattle.typing_rules.specs.CodeConstraints.{has}
use Rattle.type_constraints.proofs.Last.{last_some}
use Rattle.type_constraints.proofs.code.whole.valued.Goals as goal

pub returns-else-count-eq0 : goal.returns-else-count-eq0
returns-else-count-eq0 c =
    sym (last_some (λ n. has n c.args.of.now) c.args.body.now.nodes (c.len-count.result - 1) (omega arith))
