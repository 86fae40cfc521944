use Rattle.std.proofs.Common.{◌∙◌}
use Rattle.driver.specs.Stages.{FetchStopped, ProvidedTo}
use Rattle.driver.proofs.FetchLemmas.{bytes_more, err_as, stops_at}
use Rattle.driver.proofs.ProvidedLemmas.{provided_more, provided_stops}
use Rattle.driver.proofs.stages.fetch_all.Goals as goal

pub returns-in_err-fetch-clause-stopped : goal.returns-in_err-fetch-clause-stopped
returns-in_err-fetch-clause-stopped g c =
    let holds = g.S.Sources.holds c.args.sources.now in
    let old = g.S.Sources.faults c.args.sources.now in
    let new = g.S.Sources.faults c.fetch.new.sources in
    err_as c.from_residual.result _ (FetchStopped holds c.args.names.now old new) c.from_residual.ensures.1
    (stops_at holds _ c.args.names.now c.loop-number.number c.index-names-number.result c.loop-number.files.items _ old new _ c.loop-number.invariant.0 c.loop-number.invariant.1 c.loop-number-test.true c.loop-number.invariant.2 c.index-names-number.is c.in_err-fetch.ensures.stopped)

pub returns-in_err-fetch-clause-provided_before : goal.returns-in_err-fetch-clause-provided_before
returns-in_err-fetch-clause-provided_before g c =
    let provided = g.S.Sources.provided in
    err_as c.from_residual.result _ (ProvidedTo (provided c.args.sources.now) (provided c.fetch.new.sources) c.args.names.now) c.from_residual.ensures.1
    (provided_stops _ (provided c.args.sources.now) (provided c.loop-number.sources) (provided c.fetch.new.sources) c.args.names.now c.loop-number.number c.index-names-number.result c.loop-number.files.items _ _ _ c.loop-number-test.true c.loop-number.invariant.3 c.in_err-fetch.ensures.provided_none c.in_err-fetch.ensures.stopped)

pub loop-number-preserved : goal.loop-number-preserved
loop-number-preserved g c = (
  c.in_ok-fetch.ensures.same_files ∙ c.loop-number.invariant.0,
  c.in_ok-fetch.ensures.no_fault ∙ c.loop-number.invariant.1,
  bytes_more (g.S.Sources.holds c.args.sources.now) _ c.args.names.now c.loop-number.number c.index-names-number.result c.loop-number.files.items c.push.new.self.items c.in_ok-fetch.field-0 c.loop-number.invariant.0 c.loop-number-test.true c.loop-number.invariant.2 c.index-names-number.is c.in_ok-fetch.ensures.bytes c.in_ok-push.ensures.items,
  provided_more (g.S.Sources.provided c.args.sources.now) (g.S.Sources.provided c.loop-number.sources) _ c.args.names.now c.loop-number.number c.index-names-number.result c.loop-number.files.items c.push.new.self.items c.in_ok-fetch.field-0 c.loop-number-test.true c.loop-number.invariant.3 c.index-names-number.is c.in_ok-fetch.ensures.provided c.in_ok-push.ensures.items,
)
