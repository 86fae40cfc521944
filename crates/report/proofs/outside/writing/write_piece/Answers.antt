use Rattle.std.proofs.Common.{◌∙◌}
use Rattle.report.proofs.SinkTakenLemmas.{TakesFront-more}
use Rattle.report.proofs.outside.writing.write_piece.Goals as goal

pub loop-rest-preserved : goal.loop-rest-preserved
loop-rest-preserved g c = record {
  taken = TakesFront-more c.in-Taken.count c.loop-rest.invariant.taken c.in-Taken.ensures.appended;
  no_fault = c.in-Taken.ensures.no_fault ∙ c.loop-rest.invariant.no_fault;
}
