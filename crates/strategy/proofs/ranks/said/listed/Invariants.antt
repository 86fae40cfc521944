use Rattle.std.specs.Prelude.{◌≡◌}
use Rattle.strategy.proofs.ranks.said.listed.Given as goal

abbrev pub invariant-loop-formula : goal.invariant-loop-formula
invariant-loop-formula l = l.rest ≡ l.rest

abbrev pub decreases-loop-formula : goal.decreases-loop-formula
decreases-loop-formula l = l.rest
