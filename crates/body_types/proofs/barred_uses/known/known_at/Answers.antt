use Rattle.std.proofs.Common.{suc}
use Rattle.std.proofs.lemmas.Result.{IfOk-weaker}
use Rattle.typing_rules.specs.CodeSystems.{function_system}
use Rattle.typing_rules.specs.FieldBars.{first_steps}
use Rattle.body_types.proofs.barred_uses.known.known_at.Goals as goal

pub from_walk-requires : goal.from_walk-requires
from_walk-requires c = (first_steps (function_system c.args.program.now c.args.function.now) (suc c.args.count), record { walked = c.in_ok-walk.ensures.walked; count = c.in_ok-walk.ensures.variables })

pub returns : goal.returns
returns c = IfOk-weaker c.from_walk.result _ _
    (λ found h. h (first_steps (function_system c.args.program.now c.args.function.now) (suc c.args.count)) (record { walked = c.in_ok-walk.ensures.walked; count = c.in_ok-walk.ensures.variables }))
    c.from_walk.ensures
