use Rattle.std.proofs.Common.{take}
use Rattle.axiom_strategy.specs.Orders.{AreMarked}
use Rattle.axiom_strategy.proofs.decisions.orders.marked.Given as goal

abbrev pub invariant-loop-term : goal.invariant-loop-term
invariant-loop-term l = AreMarked l.marks (take l.term-index l.terms) l.found.items
