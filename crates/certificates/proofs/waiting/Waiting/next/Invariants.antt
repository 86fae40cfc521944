use Rattle.std.proofs.Common.{◌≡◌}
use Rattle.certificates.specs.Waiting.{cases_in, IsOrdered}
use Rattle.certificates.proofs.waiting.Waiting.next.Given as goal

-- forks without cases are gone
abbrev pub invariant-loop-self : goal.invariant-loop-self
invariant-loop-self l = record {
  ordered : IsOrdered l.self;
  cases : cases_in l.fn.self ≡ cases_in l.self;
}

abbrev pub decreases-loop-self : goal.decreases-loop-self
decreases-loop-self l = l.self.count
