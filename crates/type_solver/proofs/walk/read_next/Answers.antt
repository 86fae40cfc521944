use Rattle.std.proofs.lemmas.Result.{IfOk-weaker}
use Rattle.std.proofs.Common.{arith}
use Rattle.type_constraints.specs.Seen.{seen_all}
use Rattle.type_solver.specs.Equations.{reading_of}
use Rattle.type_solver.proofs.Reading.{walk_next, step_fits, step_longer}
use Rattle.type_solver.proofs.walk.read_next.Goals as goal

pub returns-clause-walk : goal.returns-clause-walk
returns-clause-walk c = IfOk-weaker c.after_step.result _ _ (λ after is steps r. walk_next (reading_of c.args.tables) c.args.variables steps c.args.slots.now.items c.solve_constraints.new.slots.items c.args.count (seen_all c.args.constraints.now) c.in_ok-step.step after r c.in_ok-step.ensures is) c.after_step.ensures

pub returns-clause-fits : goal.returns-clause-fits
returns-clause-fits c = IfOk-weaker c.after_step.result _ _ (λ after is. step_fits (reading_of c.args.tables) c.args.variables c.args.slots.now.items c.solve_constraints.new.slots.items (seen_all c.args.constraints.now) c.in_ok-step.step c.in_ok-step.ensures) c.after_step.ensures

pub returns-clause-variables : goal.returns-clause-variables
returns-clause-variables c = IfOk-weaker c.after_step.result _ _ (λ after is. (let more = step_longer (reading_of c.args.tables) c.args.variables c.args.slots.now.items c.solve_constraints.new.slots.items (seen_all c.args.constraints.now) c.in_ok-step.step c.in_ok-step.ensures in let le = c.requires.variables in omega (arith, more, le))) c.after_step.ensures
