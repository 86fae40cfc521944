use Rattle.std.proofs.Common.{subst}
use Rattle.std.proofs.lemmas.Result.{IfOk-weaker}
use Rattle.unification.specs.declared.type_variables.heads.KindSeen.{KindSeen}
use Rattle.unification.proofs.Instancing.{term_more}
use Rattle.type_solver.specs.Equations.{KindSaid}
use Rattle.type_solver.proofs.Stepping.{lend_plain, lend_to}
use Rattle.type_solver.proofs.step.lend.Goals as goal

pub returns-in-Plain : goal.returns-in-Plain
returns-in-Plain c = lend_plain c.args.slots.now.items c.kind_at-seen.new.slots.items c.args.term c.args.variable (subst (λ (k : KindSeen). KindSaid c.args.slots.now.items c.kind_at-seen.new.slots.items c.args.variable k) c.in-Plain.is c.kind_at-seen.ensures.said) c.requires.term c.requires.variable

pub returns-in-To : goal.returns-in-To
returns-in-To c = IfOk-weaker c.equal.result _ _ (λ answer g. lend_to c.args.slots.now.items c.kind_at-seen.new.slots.items c.equal.new.slots.items c.args.term c.in-To.to c.args.variable c.in-To.field-0 answer (subst (λ (k : KindSeen). KindSaid c.args.slots.now.items c.kind_at-seen.new.slots.items c.args.variable k) c.in-To.is c.kind_at-seen.ensures.said) c.requires.term c.requires.variable g) c.equal.ensures

pub equal-requires-clause-left : goal.equal-requires-clause-left
equal-requires-clause-left c = term_more _ _ c.args.term c.kind_at-seen.ensures.keeps.longer c.requires.term
