use Rattle.std.proofs.Common.{take}
use Rattle.front_end.specs.Numbered.{EachPair}
use Rattle.front_end.specs.Sources.{Denote}
use Rattle.front_end.proofs.sources.read_sources.Given as goal

abbrev pub invariant-loop-number : goal.invariant-loop-number
invariant-loop-number l = EachPair Denote 0 (take l.number l.texts) l.sources.items
