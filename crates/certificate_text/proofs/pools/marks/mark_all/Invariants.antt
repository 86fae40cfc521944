use Rattle.std.proofs.Common.{take}
use Rattle.certificate_text.specs.Marks.{MarksAlso}
use Rattle.certificate_text.proofs.pools.marks.mark_all.Given as goal

abbrev pub invariant-loop-number : goal.invariant-loop-number
invariant-loop-number l = MarksAlso l.fn.marks l.marks (take l.number-index l.numbers)
