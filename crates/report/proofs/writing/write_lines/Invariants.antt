use Rattle.std.proofs.Common.{◌≡◌, take}
use Rattle.std.specs.Io.KnownBytes.{append_known}
use Rattle.report.specs.Writing.{joined}
use Rattle.report.proofs.writing.write_lines.Given as goal

abbrev pub invariant-loop-line : goal.invariant-loop-line
invariant-loop-line g l = record {
  taken : g.W.Sink.taken l.sink ≡ append_known (g.W.Sink.taken l.initial.sink) (joined (take l.line-index l.line-items));
  no_fault : g.W.Sink.faults l.sink ≡ g.W.Sink.faults l.initial.sink;
}
