use Rattle.step_checks.proofs.CheckLemmas.{refused, settled}
use Rattle.step_checks.proofs.elimination.rows.has_none_left.Goals as goal

pub returns : goal.returns
returns c = settled c.args.unknowns.now c.args.row.now c.is_without.result c.is_without.ensures (λ z. refused _ _ c.if-is_without_unknowns.false c.is_without_unknowns.ensures z)
