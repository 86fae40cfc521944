use Rattle.type_check.proofs.Judging.{not_ambiguous}
use Rattle.type_check.proofs.clauses.judged.is_ambiguous.Goals as goal

pub returns-in_default : goal.returns-in_default
returns-in_default c s pool says = (
  (λ e. absurd cc),
  (λ a. absurd (not_ambiguous s pool c.args.typing.now says c.in_default.not-Ambiguous a)),
)
