use Rattle.std.proofs.Common.{◌-◌, refl, arith}
use Rattle.term_pool.proofs.GrowthLemmas.{extends_then}
use Rattle.axiom_instances.proofs.FieldRowLemmas.{is_found}
use Rattle.axiom_instances.proofs.TypedListLemmas.{typed_none, typed_done, typed_more, said_parts, said_is, rest_parts}
use Rattle.axiom_instances.proofs.struct_axioms.pack_typed.typed_list.Goals as goal

pub loop-rest-init : goal.loop-rest-init
loop-rest-init c = record {
  extends = c.insert.ensures.extends;
  within = omega arith;
  behind = typed_none c.args.pool.now c.args.types.now c.args.parts.now c.requires.many c.in_ok-list.ensures.is;
}

pub insert-requires-in-loop-rest : goal.insert-requires-in-loop-rest
insert-requires-in-loop-rest c =
    let k = c.loop-rest.rest - 1 in
    said_parts c.loop-rest.invariant.extends (is_found c.in-Some.is (c.requires.types.each k)) (c.requires.parts.each k (omega arith))

pub insert-requires-in-loop-rest-2 : goal.insert-requires-in-loop-rest-2
insert-requires-in-loop-rest-2 c =
    let k = c.loop-rest.rest - 1 in
    let said = said_is c.loop-rest.invariant.extends (is_found c.in-Some.is (c.requires.types.each k)) (c.requires.parts.each k (omega arith)) c.insert-in-loop-rest.ensures.extends c.in_ok-typed.ensures.is in
    rest_parts c.insert-in-loop-rest.ensures.extends said c.loop-rest.invariant.behind

pub loop-rest-preserved : goal.loop-rest-preserved
loop-rest-preserved c =
    let k = c.loop-rest.rest - 1 in
    let grown = c.insert-in-loop-rest.ensures.extends in
    let later = c.insert-in-loop-rest-2.ensures.extends in
    let behind = c.loop-rest.invariant.behind in
    let said = said_is c.loop-rest.invariant.extends (is_found c.in-Some.is (c.requires.types.each k)) (c.requires.parts.each k (omega arith)) grown c.in_ok-typed.ensures.is in
    record {
      extends = extends_then c.loop-rest.invariant.extends (extends_then grown later);
      within = omega arith;
      behind = typed_more c.args.pool.now c.args.types.now c.args.parts.now c.requires.many k c.loop-rest.rest _ _ (omega arith) c.in-Some.is refl grown later said behind (rest_parts grown said behind) c.in_ok-list-2.ensures.is;
    }

pub returns-in_default-clause-is : goal.returns-in_default-clause-is
returns-in_default-clause-is c = record { position = c.loop-rest.rest - 1; within = omega arith; lacks = c.in_default.is }

pub returns-clause-is : goal.returns-clause-is
returns-clause-is c =
    typed_done c.args.pool.now c.args.types.now c.args.parts.now c.requires.many c.loop-rest.rest (omega arith) c.loop-rest.invariant.behind
