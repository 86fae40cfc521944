use Rattle.std.proofs.Common.{refl, subst, arith}
use Rattle.base.specs.TypeData.{types_of}
use Rattle.term_pool.specs.Items.{TypesItem}
use Rattle.term_pool.specs.Pools.{IsItem}
use Rattle.term_pool.specs.declared.node.Two.TheVariants.{ConsType}
use Rattle.term_pool.specs.declared.node.Three.TheVariants.{TypeStruct}
use Rattle.term_pool.proofs.GrowthLemmas.{extends_then, item_stays, two_parts, two_is, three_parts, three_is, if_ok, drop_before}
use Rattle.term_pool.proofs.interning.+types.Goals as goal

pub intern_struct-three-requires : goal.intern_struct-three-requires
intern_struct-three-requires t c = three_parts (TypeStruct c.args.id.now.address) (item_stays c.intern_types.ensures.extends (item_stays c.intern_name-2.ensures.extends c.in_ok-module.ensures.is)) (item_stays c.intern_types.ensures.extends c.in_ok-name.ensures.is) c.in_ok-ts.ensures.is refl refl refl

pub intern_struct-returns-clause-is : goal.intern_struct-returns-clause-is
intern_struct-returns-clause-is t c = if_ok c.three.result (λ k r. three_is (TypeStruct c.args.id.now.address) (item_stays c.intern_types.ensures.extends (item_stays c.intern_name-2.ensures.extends c.in_ok-module.ensures.is)) (item_stays c.intern_types.ensures.extends c.in_ok-name.ensures.is) c.in_ok-ts.ensures.is r) c.three.ensures.is

pub intern_types-two-requires : goal.intern_types-two-requires
intern_types-two-requires t c = two_parts ConsType c.in_ok-first.ensures.is (item_stays c.intern_type.ensures.extends c.loop-rest.invariant.list) refl refl

pub intern_types-loop-rest-preserved : goal.intern_types-loop-rest-preserved
intern_types-loop-rest-preserved t c = record {
  extends = extends_then c.loop-rest.invariant.extends (extends_then c.intern_type.ensures.extends c.two.ensures.extends);
  list = subst (λ xs. IsItem c.two.new.pool c.in_ok-list-2.list (TypesItem (types_of xs))) (drop_before c.args.types.now c.loop-rest.rest c.index-types-rest.result c.loop-rest-test.true c.loop-rest.invariant.within c.index-types-rest.is)
      (two_is ConsType c.in_ok-first.ensures.is (item_stays c.intern_type.ensures.extends c.loop-rest.invariant.list) c.in_ok-list-2.ensures.is);
  within = omega (arith, c.loop-rest.invariant.within);
}
