use Rattle.std.proofs.Common.{refl, get_or}
use Rattle.certificate_text.proofs.MarkLemmas.{numbers_more}
use Rattle.certificate_text.proofs.pools.marks.mark_all.Goals as goal

pub loop-number-preserved : goal.loop-number-preserved
loop-number-preserved c =
    let xs = c.args.numbers.now in
    let i = c.loop-number.number-index in
    numbers_more c.args.marks.now c.loop-number.marks c.mark.new.marks xs i (get_or xs i 0) c.loop-number-test.true refl c.loop-number.invariant c.mark.ensures
