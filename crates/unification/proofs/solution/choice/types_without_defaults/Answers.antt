use Rattle.std.proofs.Common.{ℕ, List, sym, subst}
use Rattle.unification.specs.Slots.{Typing, Meets}
use Rattle.unification.specs.Ranked.{IsRanking, rank_at}
use Rattle.unification.proofs.Options.{at_none, at_some}
use Rattle.unification.specs.Numbers.{IsOrder}
use Rattle.unification.proofs.Numbering.{is_order}
use Rattle.unification.proofs.Deciding.{untypable, types_alone}
use Rattle.unification.proofs.solution.choice.types_without_defaults.Goals as goal

pub returns-in-None-clause-says : goal.returns-in-None-clause-says
returns-in-None-clause-says c = untypable c.args.slots.now
    (at_none _ ((t : Typing) → Meets c.args.slots.now t → ⊥) (λ r. IsRanking c.args.slots.now r.ranks.items r.order.items) c.in-None.is c.in_ok-ranks.ensures)

pub table-requires-clause-order : goal.table-requires-clause-order
table-requires-clause-order c =
    let is = at_some _ ((t : Typing) → Meets c.args.slots.now t → ⊥) (λ r. IsRanking c.args.slots.now r.ranks.items r.order.items) c.in-Some.ranking c.in-Some.is c.in_ok-ranks.ensures in
    subst (λ (os : List ℕ). IsOrder c.args.slots.now os) (sym c.deref.ensures.value) (is_order c.args.slots.now c.in-Some.ranking.ranks.items c.in-Some.ranking.order.items is)

pub returns-in_ok-numbers-in-Some-clause-says : goal.returns-in_ok-numbers-in-Some-clause-says
returns-in_ok-numbers-in-Some-clause-says c =
    let is = at_some _ ((t : Typing) → Meets c.args.slots.now t → ⊥) (λ r. IsRanking c.args.slots.now r.ranks.items r.order.items) c.in-Some.ranking c.in-Some.is c.in_ok-ranks.ensures in
    types_alone c.args.slots.now c.args.variables c.table.new.pool c.in_ok-numbers-in-Some.numbers.items (rank_at c.in-Some.ranking.ranks.items) is.is_rank c.in_ok-numbers-in-Some.ensures.says
