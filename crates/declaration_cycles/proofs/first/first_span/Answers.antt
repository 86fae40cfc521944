use Rattle.std.proofs.Common.{List, ℕ, subst}
use Rattle.std.proofs.lemmas.List.{take_all}
use Rattle.program.specs.Order.{IsFirstOrNone}
use Rattle.declaration_cycles.specs.Circular.{IsSpanAmong, spans_in}
use Rattle.declaration_cycles.proofs.FirstSpans.{no_span, next_span}
use Rattle.declaration_cycles.proofs.first.first_span.Goals as goal

pub loop-number-init : goal.loop-number-init
loop-number-init c = no_span (spans_in c.args.program.now c.args.kind) c.args.numbers.now

pub loop-number-preserved : goal.loop-number-preserved
loop-number-preserved c = next_span (spans_in c.args.program.now c.args.kind) c.args.numbers.now c.loop-number.number-index _ c.loop-number.first c.span_of.result c.earlier-first.result c.loop-number-test.true c.span_of.ensures c.earlier-first.ensures c.loop-number.invariant

pub returns : goal.returns
returns c =
    subst (λ (numbers : List ℕ). IsFirstOrNone (IsSpanAmong (spans_in c.args.program.now c.args.kind) numbers) c.loop-number.first)
    (take_all c.loop-number.number-index c.args.numbers.now c.loop-number-test.false)
    c.loop-number.invariant
