use Rattle.typing_rules.specs.CodeSystems.{function_system}
use Rattle.unification.proofs.Options.{at_none, at_some}
use Rattle.body_types.specs.BarredUsesKnown.{HasNone, IsLast}
use Rattle.body_types.proofs.Deciding.{nothing_judged}
use Rattle.body_types.proofs.barred_uses.function.bars_untypable.Goals as goal

pub bars_last-requires-clause-last : goal.bars_last-requires-clause-last
bars_last-requires-clause-last c = at_some _ (HasNone (function_system c.args.program.now c.args.function.now)) (IsLast (function_system c.args.program.now c.args.function.now)) c.in-Some.count c.in-Some.is c.in_ok-last_count.ensures

pub returns-in-None : goal.returns-in-None
returns-in-None c = nothing_judged c.args.program.now c.args.function.now c.args.own.now
    (at_none _ (HasNone (function_system c.args.program.now c.args.function.now)) (IsLast (function_system c.args.program.now c.args.function.now)) c.in-None.is c.in_ok-last_count.ensures)
