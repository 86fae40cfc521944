use Rattle.std.proofs.Common.{sym, ◌∙◌}
use Rattle.std.proofs.lemmas.Result.{IfOk-weaker}
use Rattle.unification.specs.Slots.{value}
use Rattle.unification.specs.declared.type_variables.heads.StructSeen.{StructSeen}
use Rattle.unification.proofs.Becoming.{slot_read, bound_says}
use Rattle.unification.proofs.Growing.{grown}
use Rattle.unification.proofs.Results.{if_ok_two}
use Rattle.unification.proofs.Heading.{struct_open, struct_of_is}
use Rattle.unification.proofs.type_variables.heads.variable_struct.Goals as goal

pub returns-then-leaves_struct-clause-open : goal.returns-then-leaves_struct-clause-open
returns-then-leaves_struct-clause-open c = struct_open c.root_in-at.new.slots.items c.args.variable c.root_in-at.result c.in-Open.sort (sym c.leaves_struct.ensures ∙ c.if-leaves_struct.true) c.root_in-at.ensures.grows.fits
    (slot_read c.root_in-at.new.slots.items c.root_in-at.result c.index-slot.result.now c.root_in-at.ensures.within c.index-slot.ensures ∙ c.in-Open.is) c.root_in-at.ensures.same

pub returns-in-Bound-clause-grows : goal.returns-in-Bound-clause-grows
returns-in-Bound-clause-grows c = IfOk-weaker c.made_struct.result _ _ (λ (seen : StructSeen) g. grown c.root_in-at.ensures.grows g) c.made_struct.ensures.grows

pub returns-in-Bound-clause-of : goal.returns-in-Bound-clause-of
returns-in-Bound-clause-of c = if_ok_two c.made_struct.result _ _ _
    (λ (seen : StructSeen) g is t m. let before = (g.back t m tt).0 in struct_of_is t (value t c.in-Bound.term) (t c.args.variable) seen
    (c.root_in-at.ensures.same t before ∙ bound_says c.root_in-at.new.slots.items c.root_in-at.result c.in-Bound.term t c.root_in-at.ensures.within
    (slot_read c.root_in-at.new.slots.items c.root_in-at.result c.index-slot.result.now c.root_in-at.ensures.within c.index-slot.ensures ∙ c.in-Bound.is) before)
    (is t m))
    c.made_struct.ensures.grows c.made_struct.ensures.is
