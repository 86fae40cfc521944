use Rattle.std.proofs.lemmas.Result.{IfOk-weaker}
use Rattle.type_constraints.specs.Seen.{seen_form}
use Rattle.unification.proofs.Growing.{grown}
use Rattle.unification.proofs.Instancing.{term_more}
use Rattle.unification.proofs.Results.{if_ok_two}
use Rattle.type_solver.proofs.Emitting.{said_before, takes_emits}
use Rattle.type_solver.proofs.constraints.takes.Goals as goal

pub given-requires-clause-wanted : goal.given-requires-clause-wanted
given-requires-clause-wanted c = term_more _ _ c.in_ok-wanted.wanted c.kind_at-seen.ensures.keeps.longer c.in_ok-wanted.ensures.said.within

pub returns-clause-keeps : goal.returns-clause-keeps
returns-clause-keeps c = IfOk-weaker c.given.result _ _ (λ q k. grown c.in_ok-wanted.ensures.keeps (grown c.kind_at-seen.ensures.keeps k)) c.given.ensures.keeps

pub returns-clause-emits : goal.returns-clause-emits
returns-clause-emits c = if_ok_two c.given.result _ _ _ (λ q k says w. takes_emits w c.args.slots.now.items c.form_term.new.slots.items c.given.new.slots.items c.args.variable (seen_form c.args.form) c.in_ok-wanted.wanted q c.in_ok-wanted.ensures.said
    (grown c.kind_at-seen.ensures.keeps k)
    (says c.args.slots.now.items (said_before c.args.slots.now.items c.form_term.new.slots.items c.kind_at-seen.new.slots.items c.args.variable c.kind_at-seen.result c.in_ok-wanted.ensures.keeps c.kind_at-seen.ensures.said) c.requires.variable))
    c.given.ensures.keeps c.given.ensures.says
