use Rattle.std.proofs.Common.{sym, ◌∙◌}
use Rattle.base.specs.TypeData.{BoolType}
use Rattle.unification.specs.Slots.{value}
use Rattle.unification.proofs.Becoming.{slot_read, bound_within, root_made}
use Rattle.unification.proofs.Heading.{kind_open, kind_closed, kind_bound, kind_seen_open}
use Rattle.unification.proofs.type_variables.heads.kind_seen.Goals as goal

pub returns-then-leaves_kind-clause-open : goal.returns-then-leaves_kind-clause-open
returns-then-leaves_kind-clause-open c = kind_open c.root-at.new.slots c.args.variable c.root-at.result c.in-Open.sort (sym c.leaves_kind.ensures ∙ c.if-leaves_kind.true) c.root-at.ensures.becomes.fits
    (slot_read c.root-at.new.slots c.root-at.result c.index-slots-at.result c.root-at.ensures.within c.index-slots-at.is ∙ c.in-Open.is) c.root-at.ensures.same

pub returns-else-leaves_kind-clause-of : goal.returns-else-leaves_kind-clause-of
returns-else-leaves_kind-clause-of c = kind_closed c.root-at.new.slots c.args.variable c.root-at.result c.in-Open.sort (sym c.leaves_kind.ensures ∙ c.if-leaves_kind.false) c.root-at.ensures.within
    (slot_read c.root-at.new.slots c.root-at.result c.index-slots-at.result c.root-at.ensures.within c.index-slots-at.is ∙ c.in-Open.is) c.root-at.ensures.same

pub returns-in-Bound-clause-of : goal.returns-in-Bound-clause-of
returns-in-Bound-clause-of c = kind_bound c.root-at.new.slots c.args.variable c.root-at.result c.in-Bound.term c.made_kind.result c.root-at.ensures.within
    (slot_read c.root-at.new.slots c.root-at.result c.index-slots-at.result c.root-at.ensures.within c.index-slots-at.is ∙ c.in-Bound.is) c.root-at.ensures.same c.made_kind.ensures.is

pub returns-in-Bound-clause-within : goal.returns-in-Bound-clause-within
returns-in-Bound-clause-within c =
    let bound = slot_read c.root-at.new.slots c.root-at.result c.index-slots-at.result c.root-at.ensures.within c.index-slots-at.is ∙ c.in-Bound.is in
    c.made_kind.ensures.within _ (bound_within c.root-at.new.slots c.root-at.result c.in-Bound.term c.root-at.ensures.becomes.fits c.root-at.ensures.within bound
    (root_made c.root-at.new.slots c.root-at.result c.in-Bound.term bound c.root-at.ensures.root))

pub returns-in-Bound-clause-open : goal.returns-in-Bound-clause-open
returns-in-Bound-clause-open c = kind_seen_open c.root-at.new.slots c.args.variable (λ p. BoolType) (value (λ p. BoolType) c.in-Bound.term) c.made_kind.result (c.made_kind.ensures.is (λ p. BoolType))
