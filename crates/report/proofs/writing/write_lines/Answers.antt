use Rattle.std.proofs.Common.{◌∙◌, length, take, ap, get_or, Result, Ok, Err, OnErr, arith}
use Rattle.std.specs.Io.KnownBytes.{append_known}
use Rattle.report.specs.Writing.{joined}
use Rattle.report.proofs.TakenLemmas.{TakesPrefix-lines}
use Rattle.report.proofs.writing.write_lines.Goals as goal

on_err : {T E P : Type 0} (r : Result T E) → P → OnErr r P
on_err (Ok x) p = tt
on_err (Err e) p = p

pub returns-in_err-write_piece-clause-prefix : goal.returns-in_err-write_piece-clause-prefix
returns-in_err-write_piece-clause-prefix g c =
    let items = c.as_slice-line-items.ensures in
    on_err c.from_residual.result (TakesPrefix-lines c.args.lines.now c.loop-line.line-index c.as_slice.result.now c.line-item.result
    (omega (arith, ap length items))
    (c.as_slice.ensures ∙ c.line-item.is ∙ ap (λ ls. get_or ls c.loop-line.line-index c.line-item.result) items)
    (c.loop-line.invariant.taken ∙ ap (λ ls. append_known (g.W.Sink.taken c.args.sink.now) (joined (take c.loop-line.line-index ls))) items)
    c.in_err-write_piece.ensures.prefix)
