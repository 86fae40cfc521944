use Rattle.std.proofs.Common.{length, drop, refl, sym, ap, ◌≡◌, ◌∙◌, subst, arith}
use Rattle.std.proofs.lemmas.List.{drop_all}
use Rattle.term_pool.specs.Pools.{item_at, IsItem}
use Rattle.term_pool.proofs.GrowthLemmas.{extends_itself, extends_then}
use Rattle.explanations.specs.Frames.{filled}
use Rattle.explanations.proofs.FrameLemmas.{drop_none, fill_parts, fill_made}
use Rattle.explanations.proofs.frame.fill.Goals as goal

pub loop-rest-init : goal.loop-rest-init
loop-rest-init c = record {
  extends = extends_itself c.args.pool.now;
  number = subst (λ fs. IsItem c.args.pool.now c.args.part (filled c.args.pool.now fs (item_at c.args.pool.now c.args.part))) (sym (drop_all (length c.args.way.now) c.args.way.now (omega arith))) (record { within = c.requires.part; is = refl });
  within = omega arith;
}

pub insert-requires : goal.insert-requires
insert-requires c =
    fill_parts c.args.pool.now c.loop-rest.pool c.args.way.now (item_at c.args.pool.now c.args.part) c.requires.way c.loop-rest.invariant.extends c.loop-rest.rest c.loop-rest.number _ c.loop-rest-test.true c.loop-rest.invariant.within c.node_with.result c.node_with.ensures c.loop-rest.invariant.number

pub loop-rest-preserved : goal.loop-rest-preserved
loop-rest-preserved c = record {
  extends = extends_then c.loop-rest.invariant.extends c.insert.ensures.extends;
  number = fill_made c.args.pool.now c.loop-rest.pool c.insert.new.self c.args.way.now (item_at c.args.pool.now c.args.part) c.requires.way c.loop-rest.invariant.extends c.insert.ensures.extends c.loop-rest.rest c.loop-rest.number c.in_ok-number.number _ c.loop-rest-test.true c.loop-rest.invariant.within c.node_with.result c.node_with.ensures c.loop-rest.invariant.number c.in_ok-number.ensures.is;
  within = omega (arith, c.loop-rest.invariant.within);
}

pub returns-clause-is : goal.returns-clause-is
returns-clause-is c =
    let none : c.loop-rest.rest ≡ 0 = omega arith in
    subst (λ fs. IsItem c.loop-rest.pool c.loop-rest.number (filled c.args.pool.now fs (item_at c.args.pool.now c.args.part))) (ap (λ i. drop i c.args.way.now) none ∙ drop_none c.args.way.now) c.loop-rest.invariant.number
