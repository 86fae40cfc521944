use Rattle.std.proofs.Common.{◌≡◌, ◌≤◌, length, map, sym, ap, subst, ◌∙◌, arith}
use Rattle.unification.specs.Slots.{value, list_at, TermWithin}
use Rattle.unification.specs.declared.type_variables.slots.Term.{Term}
use Rattle.unification.proofs.Growing.{grown}
use Rattle.unification.proofs.Instancing.{all_at, term_more, have_more, all_taken}
use Rattle.unification.proofs.type_variables.signature.add_all.Goals as goal

pub add_bound-requires-clause-term : goal.add_bound-requires-clause-term
add_bound-requires-clause-term c =
    term_more (length c.args.slots.now.items) (length c.loop-term.slots.items) c.term-item.result (omega (arith, c.loop-term.invariant.count))
    (subst (λ (x : Term). TermWithin (length c.args.slots.now.items) x) (sym c.term-item.is)
    (all_at (length c.args.slots.now.items) c.args.terms.now c.loop-term.term-index c.term-item.result (omega (arith, c.loop-term-test.true)) c.requires.within))

pub loop-term-preserved : goal.loop-term-preserved
loop-term-preserved c = record {
  grows = grown c.loop-term.invariant.grows c.in_ok-add_bound.ensures.grows;
  have = λ t m. have_more t (length c.args.slots.now.items) c.loop-term.term-index c.args.terms.now c.term-item.result (omega (arith, c.loop-term-test.true)) c.term-item.is
      (c.loop-term.invariant.have t (c.in_ok-add_bound.ensures.grows.back t m tt).0)
      (ap t (sym c.loop-term.invariant.count) ∙ c.in_ok-add_bound.ensures.has t m);
  count = omega (arith, c.in_ok-add_bound.ensures.one, c.loop-term.invariant.count);
}

pub returns-clause-have : goal.returns-clause-have
returns-clause-have c t m =
    let le : c.loop-term.term-index ≤ length c.args.terms.now = omega arith in
    let ge : length c.args.terms.now ≤ c.loop-term.term-index = omega arith in
    let e : c.loop-term.term-index ≡ length c.args.terms.now = omega (arith, le, ge) in
    ap (list_at t (length c.args.slots.now.items)) (sym e) ∙ c.loop-term.invariant.have t m ∙ ap (map (value t)) (all_taken c.args.terms.now c.loop-term.term-index le ge)
