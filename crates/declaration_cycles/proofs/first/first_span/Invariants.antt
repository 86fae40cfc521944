use Rattle.std.proofs.Common.{take}
use Rattle.program.specs.Order.{IsFirstOrNone}
use Rattle.declaration_cycles.specs.Circular.{IsSpanAmong, spans_in}
use Rattle.declaration_cycles.proofs.first.first_span.Given as goal

abbrev pub invariant-loop-number : goal.invariant-loop-number
invariant-loop-number l = IsFirstOrNone (IsSpanAmong (spans_in l.program l.kind) (take l.number-index l.numbers)) l.first
