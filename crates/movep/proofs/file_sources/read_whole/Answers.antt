use Rattle.std.proofs.Common.{◌<◌, lit≤, length, refl, sym, ap, ◌∙◌, arith}
use Rattle.std.proofs.lemmas.List.{length-take}
use Rattle.movep.proofs.ReadLemmas.{Consumes-end, Consumes-first, Consumes-longer, Consumes-next, length-next, length-refilled, promise_of_ok}
use Rattle.movep.proofs.file_sources.read_whole.Goals as goal

pub loop-buffer-init : goal.loop-buffer-init
loop-buffer-init g c = record {
  taken = Consumes-first _ _ c.requires;
  within = rw (ap length c.requires) (lit≤ tt);
  sized = refl;
}

pub returns-in-Ok-eq0-clause-bytes : goal.returns-in-Ok-eq0-clause-bytes
returns-in-Ok-eq0-clause-bytes g c =
    let size = length-take c.min-size.result c.loop-buffer.buffer in
    let room : 0 < length c.read.new.buf = omega (arith, size, c.loop-buffer.invariant.sized, c.read.auto.buf, c.min-size.ensures, c.len-in-loop-buffer.ensures, c.loop-buffer-test.true, c.len.ensures) in
    Consumes-end _ _ _ _ _ _ c.loop-buffer.invariant.taken c.in-Ok-eq0.ensures.bytes.0 c.in-Ok-eq0.field-0-test (c.in-Ok-eq0.ensures.bytes.1 c.in-Ok-eq0.field-0-test room)

pub loop-buffer-smaller : goal.loop-buffer-smaller
loop-buffer-smaller g c =
    let grown = promise_of_ok c.extend_from_slice.result (sym c.is_err.ensures.value ∙ c.if-is_err.false) c.extend_from_slice.ensures.ok in
    let size = length-next _ _ _ _ _ c.in-Ok.ensures.bound.0 grown in
    omega (arith, size, c.in-Ok.count-test, c.loop-buffer-test.true)

pub loop-buffer-preserved : goal.loop-buffer-preserved
loop-buffer-preserved g c =
    let grown = promise_of_ok c.extend_from_slice.result (sym c.is_err.ensures.value ∙ c.if-is_err.false) c.extend_from_slice.ensures.ok in
    let size = length-next _ _ _ _ _ c.in-Ok.ensures.bound.0 grown in
    record {
      taken = Consumes-next _ _ _ _ _ _ _ _ c.loop-buffer.invariant.taken c.in-Ok.ensures.bytes.0 c.in-Ok.ensures.bound.0 grown;
      within = omega (arith, size, length-take c.min-size.result c.loop-buffer.buffer, c.in-Ok.ensures.bound.0, c.read.auto.buf, c.min-size.ensures, c.len-in-loop-buffer.ensures, c.loop-buffer-test.true, c.len.ensures);
      sized = length-refilled _ _ c.min-size.result c.read.auto.buf ∙ c.loop-buffer.invariant.sized;
    }

pub returns-clause-too_long : goal.returns-clause-too_long
returns-clause-too_long g c =
    let long = c.loop-buffer-test.false in
    Consumes-longer _ _ _ _ c.loop-buffer.invariant.taken (omega (arith, c.len.ensures, long))
