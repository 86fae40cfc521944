use Rattle.std.proofs.Common.{suc}
use Rattle.typing_rules.specs.CodeSystems.{function_system}
use Rattle.typing_rules.specs.FieldBars.{first_steps}
use Rattle.body_types.proofs.barred_uses.known.has_typing.Goals as goal

pub returns : goal.returns
returns c = c.is_known.ensures (first_steps (function_system c.args.program.now c.args.function.now) (suc c.args.count)) c.in_ok-found.ensures
