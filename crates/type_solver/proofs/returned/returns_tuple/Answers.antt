use Rattle.std.proofs.Common.{Option, length, refl, subst}
use Rattle.std.proofs.lemmas.Result.{IfOk-weaker}
use Rattle.unification.specs.declared.type_variables.slots.Term.TheVariants.{Closed}
use Rattle.unification.proofs.Growing.{grown}
use Rattle.type_solver.specs.Tuples.{TupleSeen, PartsWithin}
use Rattle.type_solver.specs.declared.tuples.Parts.{Parts}
use Rattle.type_solver.proofs.Returning.{open_emits}
use Rattle.type_solver.proofs.returned.returns_tuple.Goals as goal

pub returns-in-None-clause-emits : goal.returns-in-None-clause-emits
returns-in-None-clause-emits c w = open_emits w c.args.slots.now.items c.tuple_at.new.slots.items c.args.variable c.args.of.now c.args.types.now (Closed c.args.of) c.in_ok-seen.ensures.keeps c.requires.variable tt (λ t. refl) c.requires.types
    (subst (λ (parts : Option Parts). TupleSeen c.tuple_at.new.slots.items c.args.variable parts) c.in-None.is c.in_ok-seen.ensures.seen)

pub returns_parts-requires-clause-parts : goal.returns_parts-requires-clause-parts
returns_parts-requires-clause-parts c = subst (λ (parts : Option Parts). PartsWithin (length c.tuple_at.new.slots.items) parts) c.in-Some.is c.in_ok-seen.ensures.within

pub returns-in-Some-clause-keeps : goal.returns-in-Some-clause-keeps
returns-in-Some-clause-keeps c = IfOk-weaker c.returns_parts.result _ _ (λ q k. grown c.in_ok-seen.ensures.keeps k) c.returns_parts.ensures.keeps

pub returns-in-Some-clause-emits : goal.returns-in-Some-clause-emits
returns-in-Some-clause-emits c = IfOk-weaker c.returns_parts.result _ _ (λ q h w. h w c.args.slots.now.items record {
  grows = c.in_ok-seen.ensures.keeps;
  inside = c.requires.variable;
  is = subst (λ (parts : Option Parts). TupleSeen c.tuple_at.new.slots.items c.args.variable parts) c.in-Some.is c.in_ok-seen.ensures.seen;
}) c.returns_parts.ensures.emits
