use Rattle.std.proofs.lemmas.Result.{IfOk-weaker}
use Rattle.type_constraints.specs.Seen.{seen_form}
use Rattle.type_solver.proofs.Moving.{written_within}
use Rattle.type_solver.proofs.Returning.{plain_emits}
use Rattle.type_solver.proofs.returned.returns.Goals as goal

pub takes-requires-clause-form : goal.takes-requires-clause-form
takes-requires-clause-form c = written_within _ (seen_form c.args.form) c.requires.written

pub returns-in_default : goal.returns-in_default
returns-in_default c = record {
  keeps = c.takes.ensures.keeps;
  emits = IfOk-weaker c.takes.result _ _ (λ q h w. plain_emits w c.args.slots.now.items c.takes.new.slots.items c.args.variable c.args.form q c.requires.written c.in_default.not-Written c.in_default.not-Read (h w)) c.takes.ensures.emits;
}
