use Rattle.std.proofs.Common.{subst}
use Rattle.unification.specs.declared.type_variables.heads.KindSeen.{KindSeen}
use Rattle.type_solver.specs.Equations.{KindSaid}
use Rattle.type_solver.proofs.Emitting.{target_open, target_never, target_equal}
use Rattle.type_solver.proofs.constraints.target_of.Goals as goal

pub returns-in-Unsettled-clause-emits : goal.returns-in-Unsettled-clause-emits
returns-in-Unsettled-clause-emits c w = target_open w c.args.slots.now.items c.kind_at-seen.new.slots.items c.args.variable c.args.from (subst (λ (k : KindSeen). KindSaid c.args.slots.now.items c.kind_at-seen.new.slots.items c.args.from k) c.in-Unsettled.is c.kind_at-seen.ensures.said)

pub returns-in-Plain-clause-emits : goal.returns-in-Plain-clause-emits
returns-in-Plain-clause-emits c w = target_never w c.args.slots.now.items c.kind_at-seen.new.slots.items c.args.variable c.args.from (subst (λ (k : KindSeen). KindSaid c.args.slots.now.items c.kind_at-seen.new.slots.items c.args.from k) c.in-Plain.is c.kind_at-seen.ensures.said) c.requires.from

pub returns-in-To-clause-emits : goal.returns-in-To-clause-emits
returns-in-To-clause-emits c w = target_equal w c.args.slots.now.items c.kind_at-seen.new.slots.items c.args.variable c.args.from c.in-To.field-0 c.in-To.to (subst (λ (k : KindSeen). KindSaid c.args.slots.now.items c.kind_at-seen.new.slots.items c.args.from k) c.in-To.is c.kind_at-seen.ensures.said) c.requires.from c.requires.variable
