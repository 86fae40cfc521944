use Rattle.std.proofs.Common.{◌≡◌, [], length, reverse}
use Rattle.parser_base.specs.KeptReading.{head_end}
use Rattle.parser_base.proofs.kept.skip_head.Given as goal

abbrev pub invariant-loop-token : goal.invariant-loop-token
invariant-loop-token l = head_end [] l.tokens ≡ head_end (reverse l.wanted.items) l.rest

abbrev pub decreases-loop-token : goal.decreases-loop-token
decreases-loop-token l = length l.rest
