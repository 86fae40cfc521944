use Rattle.std.proofs.Common.{◌≡◌, [], length, reverse}
use Rattle.parser_base.specs.BalanceReading.{balanced_end}
use Rattle.parser_base.proofs.balanced.skip_balanced.Given as goal

abbrev pub invariant-loop-token : goal.invariant-loop-token
invariant-loop-token l = balanced_end l.close [] l.tokens ≡ balanced_end l.close (reverse l.wanted.items) l.rest

abbrev pub decreases-loop-token : goal.decreases-loop-token
decreases-loop-token l = length l.rest
