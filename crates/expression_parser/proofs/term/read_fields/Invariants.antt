use Rattle.std.proofs.Common.{◌≡◌, ◌+◌, ◌-◌, length}
use Rattle.expression_parser.specs.ExpressionReading.{fields_at, whole_fields_at}
use Rattle.expression_parser.proofs.term.read_fields.Given as goal

abbrev pub invariant-loop : goal.invariant-loop
invariant-loop l = whole_fields_at l.fn.term l.tokens ≡ fields_at (length l.tokens + 1 - l.counter) l.base.value l.rest
