use Rattle.std.proofs.Common.{subst}
use Rattle.driver.specs.Run.{IsOutput, IsReportText, IsStopText, IsVerified, RunStopped}
use Rattle.report.specs.Writes.{Writes}
use Rattle.driver.proofs.RunLemmas.{writes_as, report_output, stop_output}
use Rattle.driver.proofs.top.run.Goals as goal

pub returns-in-Ok : goal.returns-in-Ok
returns-in-Ok g c =
    writes_as (IsReportText c.in-Ok.report) (IsOutput c.args.words.now (g.S.Sources.holds c.args.sources.now) (g.S.Sources.provided c.args.sources.now) (g.S.Sources.provided c.report_of.new.sources) (g.S.Sources.faults c.args.sources.now) (g.S.Sources.faults c.report_of.new.sources)) (g.W.Sink.taken c.args.sink.now) (g.W.Sink.taken c.write_report.new.sink) (g.W.Sink.faults c.args.sink.now) (g.W.Sink.faults c.write_report.new.sink) c.write_report.result
    (report_output c.args.words.now (g.S.Sources.holds c.args.sources.now) (g.S.Sources.provided c.args.sources.now) (g.S.Sources.provided c.report_of.new.sources) (g.S.Sources.faults c.args.sources.now) (g.S.Sources.faults c.report_of.new.sources) c.in-Ok.report c.in-Some.ensures.1 (subst (λ names. IsVerified (g.S.Sources.holds c.args.sources.now) (g.S.Sources.provided c.args.sources.now) (g.S.Sources.provided c.report_of.new.sources) names c.in-Ok.report) c.in-Some.ensures.0 c.in-Ok.ensures.verified))
    c.write_report.ensures

pub returns-in-Err : goal.returns-in-Err
returns-in-Err g c =
    writes_as (IsStopText c.args.words.now c.in-Err.stop) (IsOutput c.args.words.now (g.S.Sources.holds c.args.sources.now) (g.S.Sources.provided c.args.sources.now) (g.S.Sources.provided c.report_of.new.sources) (g.S.Sources.faults c.args.sources.now) (g.S.Sources.faults c.report_of.new.sources)) (g.W.Sink.taken c.args.sink.now) (g.W.Sink.taken c.write_stop.new.sink) (g.W.Sink.faults c.args.sink.now) (g.W.Sink.faults c.write_stop.new.sink) c.write_stop.result
    (stop_output c.args.words.now (g.S.Sources.holds c.args.sources.now) (g.S.Sources.provided c.args.sources.now) (g.S.Sources.provided c.report_of.new.sources) (g.S.Sources.faults c.args.sources.now) (g.S.Sources.faults c.report_of.new.sources) c.in-Err.stop c.in-Some.ensures.1
    (subst (λ names. RunStopped (g.S.Sources.holds c.args.sources.now) (g.S.Sources.provided c.args.sources.now) (g.S.Sources.provided c.report_of.new.sources) names (g.S.Sources.faults c.args.sources.now) (g.S.Sources.faults c.report_of.new.sources) c.in-Err.stop) c.in-Some.ensures.0 c.in-Err.ensures.stopped))
    (subst (λ names. Writes (IsStopText names c.in-Err.stop) (g.W.Sink.taken c.args.sink.now) (g.W.Sink.taken c.write_stop.new.sink) (g.W.Sink.faults c.args.sink.now) (g.W.Sink.faults c.write_stop.new.sink) c.write_stop.result) c.in-Some.ensures.0 c.write_stop.ensures)
