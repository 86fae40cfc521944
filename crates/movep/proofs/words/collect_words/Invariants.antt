use Rattle.std.proofs.Common.{◌≤◌}
use Rattle.movep.proofs.WordLemmas.{AreWordsTo}
use Rattle.movep.proofs.words.collect_words.Given as goal

abbrev pub invariant-loop-number : goal.invariant-loop-number
invariant-loop-number g l = record {
  begun : 1 ≤ l.number;
  words : AreWordsTo (g.C.CommandLine.words l.fn.line) l.number l.words;
}
