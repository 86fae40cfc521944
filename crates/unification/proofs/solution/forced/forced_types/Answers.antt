use Rattle.std.proofs.Common.{ℕ, List, sym, subst}
use Rattle.unification.specs.Numbers.{IsOrder}
use Rattle.unification.proofs.Numbering.{is_order}
use Rattle.unification.proofs.solution.forced.forced_types.Goals as goal

pub table-requires-clause-order : goal.table-requires-clause-order
table-requires-clause-order c =
    subst (λ (os : List ℕ). IsOrder c.args.slots.now os) (sym c.deref.ensures.value)
    (is_order c.args.slots.now c.args.ranking.now.ranks.items c.args.ranking.now.order.items c.requires.ranking)

pub returns-clause-says : goal.returns-clause-says
returns-clause-says c = record { roots_are = c.in_ok-roots.ensures; table = c.in_ok-numbers.ensures.says }
