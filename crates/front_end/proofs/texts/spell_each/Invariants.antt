use Rattle.std.proofs.Common.{take}
use Rattle.front_end.specs.Numbered.{EachPair}
use Rattle.front_end.specs.TextReading.{IsText}
use Rattle.front_end.proofs.texts.spell_each.Given as goal

abbrev pub invariant-loop-number : goal.invariant-loop-number
invariant-loop-number l = EachPair IsText 0 (take l.number l.files) l.texts.items
