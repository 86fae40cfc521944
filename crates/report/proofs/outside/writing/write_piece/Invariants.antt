use Rattle.std.proofs.Common.{◌≡◌, length}
use Rattle.report.specs.SinkWriting.{TakesFront}
use Rattle.report.proofs.outside.writing.write_piece.Given as goal

abbrev pub invariant-loop-rest : goal.invariant-loop-rest
invariant-loop-rest g l = record {
  taken : TakesFront (g.W.Sink.taken l.initial.sink) (g.W.Sink.taken l.sink) l.piece l.rest;
  no_fault : g.W.Sink.faults l.sink ≡ g.W.Sink.faults l.initial.sink;
}

abbrev pub decreases-loop-rest : goal.decreases-loop-rest
decreases-loop-rest g l = length l.rest
