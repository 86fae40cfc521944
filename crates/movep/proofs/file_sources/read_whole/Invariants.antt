use Rattle.std.proofs.Common.{◌≡◌, ◌≤◌, ◌+◌, ◌-◌, length}
use Rattle.std.specs.Io.KnownBytes.{Consumes}
use Rattle.report.specs.declared.outside.TheConstants.{FILE_LIMIT}
use Rattle.movep.specs.declared.file_sources.TheConstants.{READ_SIZE}
use Rattle.movep.proofs.file_sources.read_whole.Given as goal

abbrev pub invariant-loop-buffer : goal.invariant-loop-buffer
invariant-loop-buffer g l = record {
  taken : Consumes (g.R.Read.remaining l.initial.reader) (g.R.Read.remaining l.reader) l.into;
  within : length l.into ≤ FILE_LIMIT + 1;
  sized : length l.buffer ≡ READ_SIZE;
}

abbrev pub decreases-loop-buffer : goal.decreases-loop-buffer
decreases-loop-buffer g l = FILE_LIMIT + 1 - length l.into
