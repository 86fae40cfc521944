use Rattle.std.proofs.Common.{subst, sym}
use Rattle.unification.specs.declared.type_variables.heads.KindSeen.{KindSeen}
use Rattle.type_solver.specs.declared.equation.Equation.{Equation}
use Rattle.typing_rules.specs.Constraint as D
use Rattle.type_solver.specs.Equations.{KindSaid, Emits}
use Rattle.type_solver.proofs.Emitting.{through_open, through_plain, through_to}
use Rattle.type_solver.proofs.constraints.through.Goals as goal

pub returns-in-Unsettled-clause-emits : goal.returns-in-Unsettled-clause-emits
returns-in-Unsettled-clause-emits c w = through_open w c.args.slots.now.items c.kind_at-seen.new.slots.items c.args.variable (subst (λ (k : KindSeen). KindSaid c.args.slots.now.items c.kind_at-seen.new.slots.items c.args.variable k) c.in-Unsettled.is c.kind_at-seen.ensures.said)

pub returns-in-Plain-clause-emits : goal.returns-in-Plain-clause-emits
returns-in-Plain-clause-emits c w = through_plain w c.args.slots.now.items c.kind_at-seen.new.slots.items c.args.variable (subst (λ (k : KindSeen). KindSaid c.args.slots.now.items c.kind_at-seen.new.slots.items c.args.variable k) c.in-Plain.is c.kind_at-seen.ensures.said) c.requires.variable

pub returns-in-To-clause-emits : goal.returns-in-To-clause-emits
returns-in-To-clause-emits c w = subst (λ (q : Equation). Emits w c.args.slots.now.items c.kind_at-seen.new.slots.items (D.Through c.args.variable) q) (sym c.written_through.ensures) (through_to w c.args.slots.now.items c.kind_at-seen.new.slots.items c.args.variable c.in-To.wrap c.in-To.field-1 (subst (λ (k : KindSeen). KindSaid c.args.slots.now.items c.kind_at-seen.new.slots.items c.args.variable k) c.in-To.is c.kind_at-seen.ensures.said) c.requires.variable)
