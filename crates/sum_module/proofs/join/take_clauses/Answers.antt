use Rattle.std.proofs.Common.{None, cond, ap, ◌∙◌}
use Rattle.sum_module.specs.ClauseTable.{entry_at}
use Rattle.base.proofs.NameLaws.{is_eq-same_name}
use Rattle.sum_module.proofs.join.take_clauses.Goals as goal

pub returns-in-Some-clause-left : goal.returns-in-Some-clause-left
returns-in-Some-clause-left c = λ other.
    c.in-Some.ensures.updates.0 other ∙ ap (λ b. cond b None (entry_at c.args.table.now other)) (is_eq-same_name c.args.name.now other)
