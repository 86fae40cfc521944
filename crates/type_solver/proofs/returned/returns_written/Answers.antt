use Rattle.std.proofs.Common.{refl, sym, subst}
use Rattle.std.specs.Prelude.{IsNone}
use Rattle.std.proofs.lemmas.Result.{IfOk-weaker}
use Rattle.type_solver.proofs.Returning.{single_emits}
use Rattle.type_solver.proofs.returned.returns_written.Goals as goal

pub returns-in-None-clause-emits : goal.returns-in-None-clause-emits
returns-in-None-clause-emits c = IfOk-weaker c.takes.result _ _ (λ q h w. single_emits w c.args.slots.now.items c.takes.new.slots.items c.args.variable c.args.of.now q
    (λ ts is. absurd (c.tuple_types.ensures.none (subst (λ x. IsNone x) (sym c.in-None.is) refl) ts is)) (h w)) c.takes.ensures.emits
