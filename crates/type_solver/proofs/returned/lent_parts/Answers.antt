use Rattle.std.proofs.Common.{List, ◌≤◌, length, sym, subst, arith}
use Rattle.base.specs.TypeData.{TypeData}
use Rattle.unification.proofs.Growing.{grown}
use Rattle.unification.specs.Terms.{AllWithin}
use Rattle.unification.specs.declared.type_variables.slots.Term.{Term}
use Rattle.unification.proofs.Instancing.{all_more, all_push, all_taken}
use Rattle.type_solver.specs.Tuples.{PartsSaid}
use Rattle.type_solver.proofs.Returning.{parts_next}
use Rattle.type_solver.proofs.returned.lent_parts.Goals as goal

pub loop-i-preserved : goal.loop-i-preserved
loop-i-preserved c = record {
  keeps = grown c.loop-i.invariant.keeps c.in_ok-lent_part.ensures.keeps;
  within = subst (λ (xs : List Term). AllWithin (length c.lent_part.new.slots.items) xs) (sym c.in_ok-push.ensures.items)
      (all_push (length c.lent_part.new.slots.items) c.loop-i.terms.items c.in_ok-lent_part.field-0
      (all_more (length c.loop-i.slots.items) (length c.lent_part.new.slots.items) c.loop-i.terms.items c.in_ok-lent_part.ensures.keeps.longer c.loop-i.invariant.within)
      c.in_ok-lent_part.ensures.within);
  said = λ before e s. parts_next before c.args.slots.now.items c.loop-i.slots.items c.lent_part.new.slots.items e c.loop-i.i c.args.parts c.args.types.now c.index-types-i.result c.loop-i.terms.items c.push.new.self.items c.in_ok-lent_part.field-0
      (omega (arith, c.loop-i-test.true)) c.index-types-i.is c.requires.count c.loop-i.invariant.keeps c.in_ok-lent_part.ensures.keeps s (λ at. c.in_ok-lent_part.ensures.said before e c.loop-i.i at) c.in_ok-push.ensures.items (c.loop-i.invariant.said before e s);
}

pub returns-clause-said : goal.returns-clause-said
returns-clause-said c before e s =
    let le : c.loop-i.i ≤ length c.args.types.now = omega arith in
    let ge : length c.args.types.now ≤ c.loop-i.i = omega arith in
    subst (λ (types : List TypeData). PartsSaid before c.loop-i.slots.items e 0 c.args.parts.first types c.loop-i.terms.items) (all_taken c.args.types.now c.loop-i.i le ge) (c.loop-i.invariant.said before e s)
