use Rattle.std.proofs.Common.{take}
use Rattle.explanations.specs.Plans.{AreMarked}
use Rattle.closing_rules.specs.Rewritings.{IsOnEach}
use Rattle.closing_rules.proofs.row_closings.equations.mark_each.Given as goal

abbrev pub invariant-loop-rewriting : goal.invariant-loop-rewriting
invariant-loop-rewriting l = AreMarked (IsOnEach (take l.rewriting-index l.rewritings)) l.fn.needed.items l.needed.items
