use Rattle.std.proofs.Common.{take}
use Rattle.program.specs.FieldNumbers.{AreNumbers}
use Rattle.program.proofs.field_numbers.numbers_of.Given as goal

abbrev pub invariant-loop-index : goal.invariant-loop-index
invariant-loop-index l = AreNumbers (take l.index l.fields) l.numbers
