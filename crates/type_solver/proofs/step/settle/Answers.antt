use Rattle.std.proofs.Common.{sym, subst}
use Rattle.type_solver.specs.Steps.{SettleSays}
use Rattle.type_solver.specs.declared.step.Step.{Step}
use Rattle.type_solver.proofs.Stepping.{settle_says}
use Rattle.type_solver.proofs.step.settle.Goals as goal

pub returns : goal.returns
returns c = subst (λ (s : Step). SettleSays c.args.slots.now.items c.apply_all.new.slots.items c.args.equations.now s) (sym c.step_of.ensures) (settle_says c.args.slots.now.items c.apply_all.new.slots.items c.args.equations.now c.in_ok-left.left c.in_ok-left.ensures)
