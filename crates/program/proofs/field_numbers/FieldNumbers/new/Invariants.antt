use Rattle.std.proofs.Common.{take}
use Rattle.base.specs.Pairs.{Paired}
use Rattle.program.specs.FieldNumbers.{AreNumbers}
use Rattle.program.proofs.field_numbers.FieldNumbers.new.Given as goal

abbrev pub invariant-loop-number : goal.invariant-loop-number
invariant-loop-number l = Paired (λ s n. AreNumbers s.1.fields n) (take l.number l.structs) l.all.items
