use Rattle.std.proofs.Common.{sym, arith, ◌-◌}
use Rattle.typing_rules.specs.Constraint as D
use Rattle.type_constraints.proofs.Last.{last_some}
use Rattle.type_constraints.proofs.code.whole.returned.Goals as goal

pub returns-else-count-eq0 : goal.returns-else-count-eq0
returns-else-count-eq0 c =
    sym (last_some (λ n. D.Returns n (D.Written c.args.of.now)) c.args.body.now.nodes (c.len-count.result - 1) (omega arith))
