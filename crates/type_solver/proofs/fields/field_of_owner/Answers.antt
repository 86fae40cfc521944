use Rattle.std.proofs.lemmas.Result.{IfOk-weaker}
use Rattle.unification.proofs.Growing.{grown}
use Rattle.type_solver.proofs.Fielding.{owner_later}
use Rattle.type_solver.proofs.fields.field_of_owner.Goals as goal

pub returns-clause-keeps : goal.returns-clause-keeps
returns-clause-keeps c = IfOk-weaker c.field_in.result _ _ (λ q k. grown c.in_ok-seen.ensures.grows k) c.field_in.ensures.keeps

pub returns-clause-emits : goal.returns-clause-emits
returns-clause-emits c = IfOk-weaker c.field_in.result _ _ (λ q h old from o lt. h old from c.args.term record {
  owner = owner_later old c.args.slots.now.items c.struct_seen.new.slots.items from c.args.term o c.in_ok-seen.ensures.grows;
  of = c.in_ok-seen.ensures.of;
  within = c.in_ok-seen.ensures.within;
  unseen = c.in_ok-seen.ensures.open;
} lt) c.field_in.ensures.emits
