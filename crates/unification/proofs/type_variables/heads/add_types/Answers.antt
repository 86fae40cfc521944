use Rattle.std.proofs.Common.{◌≡◌, ◌≤◌, length, sym, ap, ◌∙◌, arith}
use Rattle.unification.specs.Slots.{list_at}
use Rattle.unification.proofs.Growing.{grown}
use Rattle.unification.proofs.Instancing.{types_more, all_taken}
use Rattle.unification.proofs.type_variables.heads.add_types.Goals as goal

pub loop-of-preserved : goal.loop-of-preserved
loop-of-preserved c = record {
  grows = grown c.loop-of.invariant.grows c.in_ok-add_bound.ensures.grows;
  have = λ t m. types_more t (length c.args.slots.now.items) c.loop-of.of-index c.args.types.now c.of-item.result (omega (arith, c.loop-of-test.true)) c.of-item.is
      (c.loop-of.invariant.have t (c.in_ok-add_bound.ensures.grows.back t m tt).0)
      (ap t (sym c.loop-of.invariant.count) ∙ c.in_ok-add_bound.ensures.has t m);
  count = omega (arith, c.in_ok-add_bound.ensures.one, c.loop-of.invariant.count);
}

pub returns-clause-have : goal.returns-clause-have
returns-clause-have c t m =
    let le : c.loop-of.of-index ≤ length c.args.types.now = omega arith in
    let ge : length c.args.types.now ≤ c.loop-of.of-index = omega arith in
    let e : c.loop-of.of-index ≡ length c.args.types.now = omega (arith, le, ge) in
    ap (list_at t (length c.args.slots.now.items)) (sym e) ∙ c.loop-of.invariant.have t m ∙ all_taken c.args.types.now c.loop-of.of-index le ge
