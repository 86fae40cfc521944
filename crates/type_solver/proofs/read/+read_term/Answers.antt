use Rattle.std.proofs.Common.{◌≤◌, ◌∙◌, List, length, map, sym, ap, subst, arith}
use Rattle.std.proofs.lemmas.Result.{IfOk-weaker}
use Rattle.base.specs.TypeData.{StructType, TupleType}
use Rattle.base.specs.TypeView.{type_of_node}
use Rattle.unification.specs.Slots.{value}
use Rattle.unification.specs.Terms.{AllWithin}
use Rattle.unification.specs.declared.type_variables.slots.Term.{Term}
use Rattle.unification.proofs.Growing.{grown}
use Rattle.unification.proofs.Results.{if_ok_two}
use Rattle.unification.proofs.Instancing.{all_more, all_push, all_taken}
use Rattle.type_solver.specs.Arguments.{stated}
use Rattle.type_solver.proofs.Parts.{read_as, reads_more, struct_read, tuple_read}
use Rattle.type_solver.proofs.read.+read_term.Goals as goal

pub read_term-returns-in_ok-term-in-Vector-clause-grows : goal.read_term-returns-in_ok-term-in-Vector-clause-grows
read_term-returns-in_ok-term-in-Vector-clause-grows t c = IfOk-weaker c.wrap_term.result _ _ (λ (term : Term) g. grown c.in_ok-term-in-Vector.ensures.grows g) c.wrap_term.ensures.grows

pub read_term-returns-in_ok-terms-in-Struct-clause-grows : goal.read_term-returns-in_ok-terms-in-Struct-clause-grows
read_term-returns-in_ok-terms-in-Struct-clause-grows t c = IfOk-weaker c.group_terms.result _ _ (λ (term : Term) g. grown c.in_ok-terms-in-Struct.ensures.grows g) c.group_terms.ensures.grows

pub read_term-returns-in_ok-terms-in-Tuple-clause-grows : goal.read_term-returns-in_ok-terms-in-Tuple-clause-grows
read_term-returns-in_ok-terms-in-Tuple-clause-grows t c = IfOk-weaker c.group_terms-in-Tuple.result _ _ (λ (term : Term) g. grown c.in_ok-terms-in-Tuple.ensures.grows g) c.group_terms-in-Tuple.ensures.grows

pub read_term-returns-in_ok-terms-in-Struct-clause-is : goal.read_term-returns-in_ok-terms-in-Struct-clause-is
read_term-returns-in_ok-terms-in-Struct-clause-is t c = if_ok_two c.group_terms.result _ _ _ (λ (made : Term) g e u m. e u m ∙
    struct_read (stated u c.args.arguments) c.in-Struct.id c.types.inside.items.items (map (value u) c.deref-in-Struct-2.result.now) c.args.of.now
    (sym c.of.view_is ∙ ap type_of_node c.in-Struct.is ∙ ap (StructType c.in-Struct.id) (sym c.types.view_is))
    (ap (map (value u)) c.deref-in-Struct-2.ensures.value ∙ c.in_ok-terms-in-Struct.ensures.are u (g.back u m tt).0
    ∙ ap (map (read_as (stated u c.args.arguments))) c.deref-in-Struct.ensures.value))
    c.group_terms.ensures.grows c.group_terms.ensures.is

pub read_term-returns-in_ok-terms-in-Tuple-clause-is : goal.read_term-returns-in_ok-terms-in-Tuple-clause-is
read_term-returns-in_ok-terms-in-Tuple-clause-is t c = if_ok_two c.group_terms-in-Tuple.result _ _ _ (λ (made : Term) g e u m. e u m ∙
    tuple_read (stated u c.args.arguments) c.types-in-Tuple.inside.items.items (map (value u) c.deref-in-Tuple-2.result.now) c.args.of.now
    (sym c.of.view_is ∙ ap type_of_node c.in-Tuple.is ∙ ap TupleType (sym c.types-in-Tuple.view_is))
    (ap (map (value u)) c.deref-in-Tuple-2.ensures.value ∙ c.in_ok-terms-in-Tuple.ensures.are u (g.back u m tt).0
    ∙ ap (map (read_as (stated u c.args.arguments))) c.deref-in-Tuple.ensures.value))
    c.group_terms-in-Tuple.ensures.grows c.group_terms-in-Tuple.ensures.is

pub read_terms-loop-part-preserved : goal.read_terms-loop-part-preserved
read_terms-loop-part-preserved t c = record {
  grows = grown c.loop-part.invariant.grows c.in_ok-read_term.ensures.grows;
  within = subst (λ (xs : List Term). AllWithin (length c.read_term.new.slots.items) xs) (sym c.in_ok-push.ensures.items)
      (all_push (length c.read_term.new.slots.items) c.loop-part.terms.items c.in_ok-read_term.field-0
      (all_more (length c.loop-part.slots.items) (length c.read_term.new.slots.items) c.loop-part.terms.items c.in_ok-read_term.ensures.grows.longer c.loop-part.invariant.within)
      c.in_ok-read_term.ensures.within);
  are = λ u m. reads_more u (stated u c.args.arguments) c.loop-part.terms.items c.push.new.self.items c.in_ok-read_term.field-0 c.args.parts.now c.loop-part.part-index c.part-item.result
      (omega (arith, c.loop-part-test.true)) c.part-item.is c.in_ok-push.ensures.items
      (c.loop-part.invariant.are u (c.in_ok-read_term.ensures.grows.back u m tt).0) (c.in_ok-read_term.ensures.is u m);
}

pub read_terms-returns-clause-are : goal.read_terms-returns-clause-are
read_terms-returns-clause-are t c u m =
    let le : c.loop-part.part-index ≤ length c.args.parts.now = omega arith in
    let ge : length c.args.parts.now ≤ c.loop-part.part-index = omega arith in
    c.loop-part.invariant.are u m ∙ ap (map (read_as (stated u c.args.arguments))) (all_taken c.args.parts.now c.loop-part.part-index le ge)
