use Rattle.std.proofs.Common.{take}
use Rattle.front_end.specs.Numbered.{Each}
use Rattle.front_end.specs.Texts.{IsLight}
use Rattle.front_end.proofs.texts.check_nesting.Given as goal

abbrev pub invariant-loop-number : goal.invariant-loop-number
invariant-loop-number l = Each IsLight 0 (take l.number l.texts)
