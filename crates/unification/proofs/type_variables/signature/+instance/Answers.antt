use Rattle.std.proofs.Common.{◌≤◌, ◌∙◌, List, length, map, sym, ap, subst, arith}
use Rattle.std.proofs.lemmas.Result.{IfOk-weaker}
use Rattle.base.specs.TypeData.{StructType, TupleType}
use Rattle.base.specs.TypeView.{type_of_node}
use Rattle.unification.specs.Slots.{value}
use Rattle.unification.specs.Terms.{AllWithin}
use Rattle.unification.specs.Instances.{instance, arguments}
use Rattle.unification.specs.declared.type_variables.slots.Term.{Term}
use Rattle.unification.proofs.Growing.{grown}
use Rattle.unification.proofs.Results.{if_ok_two}
use Rattle.unification.proofs.Instancing.{struct_is, tuple_is, all_more, all_push, are_more, all_taken}
use Rattle.unification.proofs.type_variables.signature.+instance.Goals as goal

pub instance-returns-in_ok-term-in-Vector-clause-grows : goal.instance-returns-in_ok-term-in-Vector-clause-grows
instance-returns-in_ok-term-in-Vector-clause-grows t c = IfOk-weaker c.wrap_term.result _ _ (λ (term : Term) g. grown c.in_ok-term-in-Vector.ensures.grows g) c.wrap_term.ensures.grows

pub instance-returns-in_ok-term-in-Shared-clause-grows : goal.instance-returns-in_ok-term-in-Shared-clause-grows
instance-returns-in_ok-term-in-Shared-clause-grows t c = IfOk-weaker c.wrap_term-in-Shared.result _ _ (λ (term : Term) g. grown c.in_ok-term-in-Shared.ensures.grows g) c.wrap_term-in-Shared.ensures.grows

pub instance-returns-in_ok-term-in-Mutable-clause-grows : goal.instance-returns-in_ok-term-in-Mutable-clause-grows
instance-returns-in_ok-term-in-Mutable-clause-grows t c = IfOk-weaker c.wrap_term-in-Mutable.result _ _ (λ (term : Term) g. grown c.in_ok-term-in-Mutable.ensures.grows g) c.wrap_term-in-Mutable.ensures.grows

pub instance-returns-in_ok-terms-in-Struct-clause-grows : goal.instance-returns-in_ok-terms-in-Struct-clause-grows
instance-returns-in_ok-terms-in-Struct-clause-grows t c = IfOk-weaker c.group_terms.result _ _ (λ (term : Term) g. grown c.in_ok-terms-in-Struct.ensures.grows g) c.group_terms.ensures.grows

pub instance-returns-in_ok-terms-in-Tuple-clause-grows : goal.instance-returns-in_ok-terms-in-Tuple-clause-grows
instance-returns-in_ok-terms-in-Tuple-clause-grows t c = IfOk-weaker c.group_terms-in-Tuple.result _ _ (λ (term : Term) g. grown c.in_ok-terms-in-Tuple.ensures.grows g) c.group_terms-in-Tuple.ensures.grows

pub instance-returns-in_ok-terms-in-Struct-clause-is : goal.instance-returns-in_ok-terms-in-Struct-clause-is
instance-returns-in_ok-terms-in-Struct-clause-is t c = if_ok_two c.group_terms.result _ _ _ (λ (made : Term) g e u m. e u m ∙
    struct_is (arguments u c.args.parameters.base c.args.parameters.count) c.in-Struct.id c.types.inside.items.items (map (value u) c.deref-in-Struct-2.result.now) c.args.of.now
    (sym c.of.view_is ∙ ap type_of_node c.in-Struct.is ∙ ap (StructType c.in-Struct.id) (sym c.types.view_is))
    (ap (map (value u)) c.deref-in-Struct-2.ensures.value ∙ c.in_ok-terms-in-Struct.ensures.are u (g.back u m tt).0
    ∙ ap (map (instance (arguments u c.args.parameters.base c.args.parameters.count))) c.deref-in-Struct.ensures.value))
    c.group_terms.ensures.grows c.group_terms.ensures.is

pub instance-returns-in_ok-terms-in-Tuple-clause-is : goal.instance-returns-in_ok-terms-in-Tuple-clause-is
instance-returns-in_ok-terms-in-Tuple-clause-is t c = if_ok_two c.group_terms-in-Tuple.result _ _ _ (λ (made : Term) g e u m. e u m ∙
    tuple_is (arguments u c.args.parameters.base c.args.parameters.count) c.types-in-Tuple.inside.items.items (map (value u) c.deref-in-Tuple-2.result.now) c.args.of.now
    (sym c.of.view_is ∙ ap type_of_node c.in-Tuple.is ∙ ap TupleType (sym c.types-in-Tuple.view_is))
    (ap (map (value u)) c.deref-in-Tuple-2.ensures.value ∙ c.in_ok-terms-in-Tuple.ensures.are u (g.back u m tt).0
    ∙ ap (map (instance (arguments u c.args.parameters.base c.args.parameters.count))) c.deref-in-Tuple.ensures.value))
    c.group_terms-in-Tuple.ensures.grows c.group_terms-in-Tuple.ensures.is

pub instances-loop-part-preserved : goal.instances-loop-part-preserved
instances-loop-part-preserved t c = record {
  grows = grown c.loop-part.invariant.grows c.in_ok-instance.ensures.grows;
  within = subst (λ (xs : List Term). AllWithin (length c.instance.new.slots.items) xs) (sym c.in_ok-push.ensures.items)
      (all_push (length c.instance.new.slots.items) c.loop-part.terms.items c.in_ok-instance.field-0
      (all_more (length c.loop-part.slots.items) (length c.instance.new.slots.items) c.loop-part.terms.items c.in_ok-instance.ensures.grows.longer c.loop-part.invariant.within)
      c.in_ok-instance.ensures.within);
  are = λ u m. are_more u (arguments u c.args.parameters.base c.args.parameters.count) c.loop-part.terms.items c.push.new.self.items c.in_ok-instance.field-0 c.args.parts.now c.loop-part.part-index c.part-item.result
      (omega (arith, c.loop-part-test.true)) c.part-item.is c.in_ok-push.ensures.items
      (c.loop-part.invariant.are u (c.in_ok-instance.ensures.grows.back u m tt).0) (c.in_ok-instance.ensures.is u m);
}

pub instances-returns-clause-are : goal.instances-returns-clause-are
instances-returns-clause-are t c u m =
    let le : c.loop-part.part-index ≤ length c.args.parts.now = omega arith in
    let ge : length c.args.parts.now ≤ c.loop-part.part-index = omega arith in
    c.loop-part.invariant.are u m ∙ ap (map (instance (arguments u c.args.parameters.base c.args.parameters.count))) (all_taken c.args.parts.now c.loop-part.part-index le ge)
