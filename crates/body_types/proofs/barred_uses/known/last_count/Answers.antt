use Rattle.std.proofs.Common.{sym, ◌∙◌}
use Rattle.std.proofs.lemmas.Bool.{false≢true}
use Rattle.typing_rules.specs.CodeSystems.{function_system}
use Rattle.body_types.proofs.Steps.{no_first}
use Rattle.body_types.proofs.barred_uses.known.last_count.Goals as goal

pub returns-else-branch : goal.returns-else-branch
returns-else-branch c = no_first (function_system c.args.program.now c.args.function.now) (λ h. false≢true (sym c.if-branch.false ∙ c.in_ok-has_typing.ensures.1 h))
