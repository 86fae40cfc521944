use Rattle.std.proofs.Common.{subst, Option}
use Rattle.std.proofs.lemmas.Result.{IfOk-weaker}
use Rattle.unification.proofs.Growing.{grown}
use Rattle.unification.specs.declared.type_variables.slots.Term.{Term}
use Rattle.type_solver.specs.Owners.{OwnerSaid, OwnerSays}
use Rattle.type_solver.proofs.Fielding.{owner_head_open}
use Rattle.type_solver.proofs.fields.field.Goals as goal

pub returns-in-None-clause-emits : goal.returns-in-None-clause-emits
returns-in-None-clause-emits c = owner_head_open c.args.slots.now.items c.args.variable c.args.from c.args.name.now (subst (λ (x : Option Term). OwnerSays c.args.slots.now.items c.kind_at-kind.new.slots.items c.args.from x) c.in-None.is (c.owner.ensures c.args.slots.now.items c.kind_at-kind.new.slots.items c.kind_at-kind.ensures.said c.requires.from))

pub field_of_owner-requires-clause-term : goal.field_of_owner-requires-clause-term
field_of_owner-requires-clause-term c = (let o : OwnerSaid c.args.slots.now.items c.kind_at-kind.new.slots.items c.args.from c.in-Some.term = (subst (λ (x : Option Term). OwnerSays c.args.slots.now.items c.kind_at-kind.new.slots.items c.args.from x) c.in-Some.is (c.owner.ensures c.args.slots.now.items c.kind_at-kind.new.slots.items c.kind_at-kind.ensures.said c.requires.from)) in o.within)

pub returns-in-Some-clause-keeps : goal.returns-in-Some-clause-keeps
returns-in-Some-clause-keeps c = IfOk-weaker c.field_of_owner.result _ _ (λ q k. grown c.kind_at-kind.ensures.keeps k) c.field_of_owner.ensures.keeps

pub returns-in-Some-clause-emits : goal.returns-in-Some-clause-emits
returns-in-Some-clause-emits c = IfOk-weaker c.field_of_owner.result _ _ (λ q h. h c.args.slots.now.items c.args.from (subst (λ (x : Option Term). OwnerSays c.args.slots.now.items c.kind_at-kind.new.slots.items c.args.from x) c.in-Some.is (c.owner.ensures c.args.slots.now.items c.kind_at-kind.new.slots.items c.kind_at-kind.ensures.said c.requires.from)) c.requires.from) c.field_of_owner.ensures.emits
