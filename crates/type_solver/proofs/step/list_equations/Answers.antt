use Rattle.std.proofs.Common.{sym, subst, ◌∙◌, arith, List}
use Rattle.type_constraints.specs.Seen.{seen_all}
use Rattle.type_constraints.specs.declared.constraint.Constraint.{Constraint}
use Rattle.unification.proofs.Growing.{grown}
use Rattle.type_solver.specs.Equations.{reading_of}
use Rattle.type_solver.specs.Steps.{AllSay}
use Rattle.type_solver.proofs.Forming.{keeps_same}
use Rattle.type_solver.proofs.Stepping.{say_none, say_next, open_at, within_now, taken_all}
use Rattle.type_solver.proofs.step.list_equations.Goals as goal

pub loop-constraint-init : goal.loop-constraint-init
loop-constraint-init c = record {
  keeps = keeps_same c.args.slots.now.items c.requires.fits;
  says = say_none (reading_of c.args.tables) c.args.slots.now.items c.args.slots.now.items c.args.equations.now.items c.requires.none;
}

pub loop-constraint-preserved : goal.loop-constraint-preserved
loop-constraint-preserved c = record {
  keeps = grown c.loop-constraint.invariant.keeps c.in_ok-equation.ensures.keeps;
  says = say_next (reading_of c.args.tables) c.args.slots.now.items c.loop-constraint.slots.items c.emit.new.slots.items c.args.constraints.now c.loop-constraint.constraint-index c.constraint-item.result c.loop-constraint.equations.items c.push.new.self.items c.in_ok-equation.equation
      (omega (arith, c.loop-constraint-test.true)) c.constraint-item.is c.requires.within c.loop-constraint.invariant.keeps c.in_ok-equation.ensures.keeps c.loop-constraint.invariant.says
      (sym c.is_unsettled.ensures ∙ c.if-is_unsettled.false) c.in_ok-equation.ensures.emits c.in_ok-push.ensures.items;
}

pub returns-then-is_unsettled-clause-says : goal.returns-then-is_unsettled-clause-says
returns-then-is_unsettled-clause-says c = open_at (reading_of c.args.tables) c.args.slots.now.items c.loop-constraint.slots.items c.emit.new.slots.items c.args.constraints.now c.loop-constraint.constraint-index c.constraint-item.result c.in_ok-equation.equation
    (omega (arith, c.loop-constraint-test.true)) c.constraint-item.is c.loop-constraint.invariant.keeps (sym c.is_unsettled.ensures ∙ c.if-is_unsettled.true) c.in_ok-equation.ensures.emits

pub returns-clause-says : goal.returns-clause-says
returns-clause-says c = subst (λ (ds : List Constraint). AllSay (reading_of c.args.tables) c.args.slots.now.items c.loop-constraint.slots.items (seen_all ds) c.loop-constraint.equations.items) (taken_all c.args.constraints.now c.loop-constraint.constraint-index (omega arith) (omega arith)) c.loop-constraint.invariant.says

pub emit-requires-clause-within : goal.emit-requires-clause-within
emit-requires-clause-within c = within_now c.args.slots.now.items c.loop-constraint.slots.items c.args.constraints.now c.loop-constraint.constraint-index c.constraint-item.result (omega (arith, c.loop-constraint-test.true)) c.constraint-item.is c.loop-constraint.invariant.keeps c.requires.within

pub returns-then-is_unsettled-clause-keeps : goal.returns-then-is_unsettled-clause-keeps
returns-then-is_unsettled-clause-keeps c = grown c.loop-constraint.invariant.keeps c.in_ok-equation.ensures.keeps
