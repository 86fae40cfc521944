use Rattle.std.proofs.Common.{length, ◌-◌}
use Rattle.tokens.proofs.Rows.{Progress}
use Rattle.tokens.proofs.scanner.tokens.Given as goal

abbrev pub invariant-loop-at : goal.invariant-loop-at
invariant-loop-at l = Progress l.file l.bytes l.found l.count l.at l.touching

abbrev pub decreases-loop-at : goal.decreases-loop-at
decreases-loop-at l = length l.bytes - l.at
