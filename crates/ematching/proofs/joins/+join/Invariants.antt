use Rattle.std.proofs.Common.{◌≡◌, ◌+◌, ◌*◌, length, take}
use Rattle.certificates.specs.BranchesBranch.{Branch}
use Rattle.ematching.specs.Numbers.{AreAll}
use Rattle.ematching.specs.Rows.{IsRow, patterns_in}
use Rattle.ematching.proofs.JoinLemmas.{AreJoinedBy}
use Rattle.ematching.proofs.joins.+join.Given as goal

abbrev pub invariant-join-loop-term : goal.invariant-join-loop-term
invariant-join-loop-term l = record {
  values : l.values ≡ l.fn.values;
  joined : (b : Branch) → AreAll (IsRow l.pool b l.bound) l.rest → AreJoinedBy l.pool b l.bound l.wanted.variable l.fn.values l.row.pattern (take l.term-index l.term-items) (patterns_in l.pool l.rest) l.fn.found l.found;
}

abbrev pub decreases-join : goal.decreases-join
decreases-join l = 2 * length l.rows.now

abbrev pub decreases-join_candidate : goal.decreases-join_candidate
decreases-join_candidate l = 2 * length l.rest.now + 1
