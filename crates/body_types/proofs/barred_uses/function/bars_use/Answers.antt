use Rattle.std.proofs.Common.{suc, arith}
use Rattle.std.proofs.lemmas.Result.{IfOk-weaker}
use Rattle.typing_rules.specs.CodeSystems.{function_system}
use Rattle.typing_rules.specs.FieldBars.{first_steps}
use Rattle.body_types.proofs.Steps.{last_of_all, says_none, says_some}
use Rattle.body_types.proofs.barred_uses.function.bars_use.Goals as goal

pub bars_untypable-requires-clause-none : goal.bars_untypable-requires-clause-none
bars_untypable-requires-clause-none c = says_none (first_steps (function_system c.args.program.now c.args.function.now) (suc c.in-Some.all)) _ c.in-None.is c.in_ok-known_at.ensures

pub bars_known-requires : goal.bars_known-requires
bars_known-requires c = (c.in-Some.all, says_some (first_steps (function_system c.args.program.now c.args.function.now) (suc c.in-Some.all)) _ _ c.in-Some-2.is c.in_ok-known_at.ensures)

pub returns-in-Some-2 : goal.returns-in-Some-2
returns-in-Some-2 c =
    let k = says_some (first_steps (function_system c.args.program.now c.args.function.now) (suc c.in-Some.all)) _ _ c.in-Some-2.is c.in_ok-known_at.ensures in
    IfOk-weaker c.bars_known.result _ _ (λ bars h. h c.in-Some.all k (last_of_all c.args.program.now c.args.function.now c.in-Some.all (omega arith) k.exists)) c.bars_known.ensures
