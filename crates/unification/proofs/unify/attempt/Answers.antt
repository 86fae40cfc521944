use Rattle.std.proofs.Common.{List, take, subst}
use Rattle.unification.specs.Slots.{Typing, Meets}
use Rattle.unification.specs.Ranks.{IsRank}
use Rattle.unification.specs.declared.type_variables.slots.Slot.{Slot}
use Rattle.unification.specs.Unifiers.{HasNoUnifier}
use Rattle.unification.specs.Ranked.{rank_at, IsRanking}
use Rattle.unification.specs.Solved.{Solves}
use Rattle.unification.proofs.Options.{at_none, at_some}
use Rattle.unification.proofs.Solving.{no_unifier, most_general}
use Rattle.unification.proofs.unify.attempt.Goals as goal

pub returns-in-None-2 : goal.returns-in-None-2
returns-in-None-2 c =
    let solves : Solves c.args.variables (take c.args.count c.args.pairs.now) c.in-Some.slots.items = at_some _ (HasNoUnifier c.args.variables (take c.args.count c.args.pairs.now)) (λ s. Solves c.args.variables (take c.args.count c.args.pairs.now) s.items) c.in-Some.slots c.in-Some.is c.in_ok-solve.ensures in
    no_unifier c.args.variables (take c.args.count c.args.pairs.now) c.in-Some.slots.items solves
    (subst (λ (s : List Slot). (t : Typing) → Meets s t → ⊥) c.deref.ensures.value
    (at_none _ ((t : Typing) → Meets c.deref.result.now t → ⊥) (λ r. IsRanking c.deref.result.now r.ranks.items r.order.items) c.in-None-2.is c.in_ok-ranks-in-Some.ensures))

pub returns : goal.returns
returns c =
    let solves : Solves c.args.variables (take c.args.count c.args.pairs.now) c.in-Some.slots.items = at_some _ (HasNoUnifier c.args.variables (take c.args.count c.args.pairs.now)) (λ s. Solves c.args.variables (take c.args.count c.args.pairs.now) s.items) c.in-Some.slots c.in-Some.is c.in_ok-solve.ensures in
    most_general c.args.variables (take c.args.count c.args.pairs.now) c.in-Some.slots.items c.in-Some-2.ranking.ranks.items solves
    (subst (λ (s : List Slot). IsRank s (rank_at c.in-Some-2.ranking.ranks.items)) c.deref.ensures.value
    (at_some _ ((t : Typing) → Meets c.deref.result.now t → ⊥) (λ r. IsRanking c.deref.result.now r.ranks.items r.order.items) c.in-Some-2.ranking c.in-Some-2.is c.in_ok-ranks-in-Some.ensures).is_rank)
