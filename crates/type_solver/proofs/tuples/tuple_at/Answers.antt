use Rattle.std.proofs.Common.{◌∙◌}
use Rattle.std.proofs.lemmas.Result.{IfOk-weaker}
use Rattle.unification.proofs.Becoming.{slot_read, bound_says}
use Rattle.unification.proofs.Growing.{grown}
use Rattle.unification.proofs.Results.{if_ok_two}
use Rattle.type_solver.proofs.Emitting.{earlier}
use Rattle.type_solver.proofs.Tupling.{open_seen, bound_seen}
use Rattle.type_solver.proofs.tuples.tuple_at.Goals as goal

pub returns-in-Open-clause-seen : goal.returns-in-Open-clause-seen
returns-in-Open-clause-seen c = open_seen c.root_in-at.new.slots.items c.args.variable c.root_in-at.result c.in-Open.field-0 c.root_in-at.ensures.keeps.fits c.root_in-at.ensures.within
    (slot_read c.root_in-at.new.slots.items c.root_in-at.result c.index-slot.result.now c.root_in-at.ensures.within c.index-slot.ensures ∙ c.in-Open.is) c.root_in-at.ensures.same

pub returns-in-Bound-clause-keeps : goal.returns-in-Bound-clause-keeps
returns-in-Bound-clause-keeps c = IfOk-weaker c.made_tuple.result _ _ (λ parts g. grown c.root_in-at.ensures.keeps g) c.made_tuple.ensures.keeps

pub returns-in-Bound-clause-seen : goal.returns-in-Bound-clause-seen
returns-in-Bound-clause-seen c = if_ok_two c.made_tuple.result _ _ _
    (λ parts g is. bound_seen c.made_tuple.new.slots.items c.args.variable c.in-Bound.term parts
    (λ t m. let before = earlier c.root_in-at.new.slots.items c.made_tuple.new.slots.items g t m in
    c.root_in-at.ensures.same t before ∙ bound_says c.root_in-at.new.slots.items c.root_in-at.result c.in-Bound.term t c.root_in-at.ensures.within
    (slot_read c.root_in-at.new.slots.items c.root_in-at.result c.index-slot.result.now c.root_in-at.ensures.within c.index-slot.ensures ∙ c.in-Bound.is) before)
    is)
    c.made_tuple.ensures.keeps c.made_tuple.ensures.is
