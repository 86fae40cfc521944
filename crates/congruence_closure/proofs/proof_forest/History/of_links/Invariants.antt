use Rattle.std.proofs.Common.{◌≡◌, length}
use Rattle.congruence_closure.specs.Histories.{IsHistory}
use Rattle.congruence_closure.proofs.proof_forest.History.of_links.Given as goal

abbrev pub invariant-loop-number : goal.invariant-loop-number
invariant-loop-number l = record {
  long : length l.history ≡ l.count;
  history : IsHistory l.links l.number l.history;
}
