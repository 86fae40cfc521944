use Rattle.std.proofs.Common.{◌≡◌, ◌++◌, map, take}
use Rattle.axiom_strategy.specs.Askers.{term_asker}
use Rattle.axiom_strategy.proofs.ranges.add_terms.Given as goal

abbrev pub invariant-loop-term : goal.invariant-loop-term
invariant-loop-term l = l.askers.items ≡ l.fn.askers.items ++ map term_asker (take l.term-index l.terms)
