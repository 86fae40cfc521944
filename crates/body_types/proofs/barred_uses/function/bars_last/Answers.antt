use Rattle.std.proofs.Common.{suc}
use Rattle.std.proofs.lemmas.Result.{IfOk-weaker}
use Rattle.typing_rules.specs.CodeSystems.{function_system}
use Rattle.typing_rules.specs.FieldBars.{first_steps}
use Rattle.body_types.proofs.Steps.{says_none, says_some}
use Rattle.body_types.proofs.barred_uses.function.bars_last.Goals as goal

pub bars_known-requires : goal.bars_known-requires
bars_known-requires c = (c.args.count, says_some (first_steps (function_system c.args.program.now c.args.function.now) (suc c.args.count)) _ _ c.in-Some.is c.in_ok-known_at.ensures)

pub returns-in-None : goal.returns-in-None
returns-in-None c = absurd (says_none (first_steps (function_system c.args.program.now c.args.function.now) (suc c.args.count)) _ c.in-None.is c.in_ok-known_at.ensures c.requires.last.exists.0 c.requires.last.exists.1)

pub returns-in-Some : goal.returns-in-Some
returns-in-Some c =
    let k = says_some (first_steps (function_system c.args.program.now c.args.function.now) (suc c.args.count)) _ _ c.in-Some.is c.in_ok-known_at.ensures in
    IfOk-weaker c.bars_known.result _ _ (λ bars h. h c.args.count k c.requires.last) c.bars_known.ensures
