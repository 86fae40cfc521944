use Rattle.std.proofs.Common.{◌-◌, arith}
use Rattle.term_pool.proofs.GrowthLemmas.{extends_then, item_stays}
use Rattle.axiom_instances.specs.Numbers.{term_at, type_at}
use Rattle.axiom_instances.proofs.PackedLemmas.{behind_none, behind_more, behind_all, field_parts, field_is, list_parts}
use Rattle.axiom_instances.proofs.struct_axioms.packed.field_list.Goals as goal

pub loop-rest-init : goal.loop-rest-init
loop-rest-init c = record {
  extends = c.insert.ensures.extends;
  behind = behind_none (type_at c.args.pool.now c.args.of) (term_at c.args.pool.now c.args.term) c.args.count c.in_ok-list.ensures.is;
}

pub insert-requires-in-loop-rest : goal.insert-requires-in-loop-rest
insert-requires-in-loop-rest c =
    let e = c.loop-rest.invariant.extends in field_parts (c.loop-rest.rest - 1) (item_stays e c.requires.of) (item_stays e c.requires.term)

pub insert-requires-in-loop-rest-2 : goal.insert-requires-in-loop-rest-2
insert-requires-in-loop-rest-2 c =
    let e = c.loop-rest.invariant.extends in
    list_parts c.insert-in-loop-rest.ensures.extends (field_is (c.loop-rest.rest - 1) c.insert-in-loop-rest.ensures.extends (item_stays e c.requires.of) (item_stays e c.requires.term) c.in_ok-field.ensures.is) c.loop-rest.invariant.behind

pub loop-rest-preserved : goal.loop-rest-preserved
loop-rest-preserved c =
    let e = c.loop-rest.invariant.extends in
    let field = field_is (c.loop-rest.rest - 1) c.insert-in-loop-rest.ensures.extends (item_stays e c.requires.of) (item_stays e c.requires.term) c.in_ok-field.ensures.is in
    record {
      extends = extends_then e (extends_then c.insert-in-loop-rest.ensures.extends c.insert-in-loop-rest-2.ensures.extends);
      behind = behind_more (c.loop-rest.rest - 1) (omega arith) c.insert-in-loop-rest.ensures.extends c.insert-in-loop-rest-2.ensures.extends field c.loop-rest.invariant.behind c.in_ok-list-2.ensures.is;
    }

pub returns-clause-is : goal.returns-clause-is
returns-clause-is c =
    behind_all (type_at c.args.pool.now c.args.of) (term_at c.args.pool.now c.args.term) c.args.count c.loop-rest.rest (omega arith) c.loop-rest.invariant.behind
