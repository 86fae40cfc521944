use Rattle.std.proofs.Common.{List, length, refl, sym, subst}
use Rattle.unification.specs.Terms.{AllWithin}
use Rattle.unification.proofs.Growing.{grown}
use Rattle.unification.specs.declared.type_variables.slots.Term.{Term}
use Rattle.unification.specs.declared.type_variables.slots.Term.TheVariants.{Closed}
use Rattle.type_solver.specs.Tuples.{PartsSaid}
use Rattle.type_solver.proofs.Returning.{other_emits, parts_emit}
use Rattle.type_solver.proofs.returned.returns_parts.Goals as goal

pub returns-then-parts-types-clause-emits : goal.returns-then-parts-types-clause-emits
returns-then-parts-types-clause-emits c w before s = other_emits w before c.args.slots.now.items c.args.variable c.args.parts c.args.of.now c.args.types.now (Closed c.args.of) s tt (λ t. refl) c.requires.types c.if-parts-types.true

pub returns-clause-emits : goal.returns-clause-emits
returns-clause-emits c w before s = parts_emit w before c.args.slots.now.items c.lent_parts.new.slots.items c.group_terms.new.slots.items c.args.variable c.args.parts c.args.of.now c.args.types.now c.deref.result.now c.in_ok-term.term (Closed c.args.of) s
    c.in_ok-terms.ensures.keeps c.in_ok-term.ensures.grows c.if-parts-types.false c.requires.types
    (subst (λ (xs : List Term). PartsSaid before c.lent_parts.new.slots.items c.args.variable 0 c.args.parts.first c.args.types.now xs) (sym c.deref.ensures.value) (c.in_ok-terms.ensures.said before c.args.variable s))
    c.in_ok-term.ensures.within tt c.in_ok-term.ensures.is (λ t. refl)

pub returns-clause-keeps : goal.returns-clause-keeps
returns-clause-keeps c = grown c.in_ok-terms.ensures.keeps c.in_ok-term.ensures.grows

pub group_terms-requires-clause-within : goal.group_terms-requires-clause-within
group_terms-requires-clause-within c = subst (λ (xs : List Term). AllWithin (length c.lent_parts.new.slots.items) xs) (sym c.deref.ensures.value) c.in_ok-terms.ensures.within
