use Rattle.std.proofs.lemmas.Result.{IfOk-weaker}
use Rattle.type_constraints.specs.Seen.{seen_all}
use Rattle.type_solver.specs.Equations.{reading_of}
use Rattle.type_solver.specs.declared.walk.Reading.TheVariants.{Whole}
use Rattle.type_solver.proofs.Reading.{walk_says, still_stopped, still_clash}
use Rattle.type_solver.proofs.walk.read_step.Goals as goal

pub returns-in-Whole-clause-walk : goal.returns-in-Whole-clause-walk
returns-in-Whole-clause-walk c = IfOk-weaker c.read_next.result _ _ (λ after h steps is. h steps (walk_says (reading_of c.args.tables) c.args.variables steps c.args.slots.now.items c.args.progress Whole c.in-Whole.is is)) c.read_next.ensures.walk

pub returns-in-Stopped-clause-walk : goal.returns-in-Stopped-clause-walk
returns-in-Stopped-clause-walk c steps is = still_stopped (reading_of c.args.tables) c.args.variables steps c.args.slots.now.items c.args.progress (seen_all c.args.constraints.now) c.in-Stopped.is is

pub returns-in-Clash-clause-walk : goal.returns-in-Clash-clause-walk
returns-in-Clash-clause-walk c steps is = still_clash (reading_of c.args.tables) c.args.variables steps c.args.slots.now.items c.args.progress (seen_all c.args.constraints.now) c.in-Clash.is is
