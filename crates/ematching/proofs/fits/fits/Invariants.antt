use Rattle.std.proofs.Common.{length, ◌+◌, ◌*◌}
use Rattle.ematching.proofs.FitLemmas.{IsFitWalk, without}
use Rattle.ematching.proofs.fits.fits.Given as goal

abbrev pub invariant-loop-pattern : goal.invariant-loop-pattern
invariant-loop-pattern l =
    IsFitWalk l.pool l.bound l.fn.pattern l.fn.target l.fn.values l.values l.waiting.items

abbrev pub decreases-loop-pattern : goal.decreases-loop-pattern
decreases-loop-pattern l = 4 * without l.values (length l.pool) + length l.waiting.items
