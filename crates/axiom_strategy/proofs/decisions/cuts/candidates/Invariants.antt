use Rattle.std.proofs.Common.{take}
use Rattle.axiom_strategy.proofs.ChoiceLemmas.{AreChosen}
use Rattle.axiom_strategy.proofs.decisions.cuts.candidates.Given as goal

abbrev pub invariant-loop-term : goal.invariant-loop-term
invariant-loop-term l = AreChosen l.pool l.classes l.numbers (take l.term-index l.terms) l.found.items l.seen
