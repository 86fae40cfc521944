use Rattle.driver.proofs.RunLemmas.{ends_whole}
use Rattle.driver.proofs.top.movep.Goals as goal

pub returns-in-Ok-clause-causes : goal.returns-in-Ok-clause-causes
returns-in-Ok-clause-causes g c =
    let holds = g.S.Sources.holds c.args.sources.now in
    let before = g.S.Sources.provided c.args.sources.now in
    let after = g.S.Sources.provided c.run.new.sources in
    let old = g.S.Sources.faults c.args.sources.now in
    let new = g.S.Sources.faults c.run.new.sources in
    let taken = g.W.Sink.taken c.args.sink.now in
    let taken' = g.W.Sink.taken c.run.new.sink in
    let faults = g.W.Sink.faults c.args.sink.now in
    let faults' = g.W.Sink.faults c.run.new.sink in
    c.causes_of_ends.ensures c.args.words.now holds before after old new taken taken' faults faults' c.in-Ok.status
    (ends_whole c.args.words.now holds before after old new taken taken' faults faults' c.in-Ok.status c.in-Ok.ensures)

pub returns-in-Err-clause-causes : goal.returns-in-Err-clause-causes
returns-in-Err-clause-causes g c =
    c.causes_of_ends.ensures c.args.words.now (g.S.Sources.holds c.args.sources.now) (g.S.Sources.provided c.args.sources.now) (g.S.Sources.provided c.run.new.sources) (g.S.Sources.faults c.args.sources.now) (g.S.Sources.faults c.run.new.sources) (g.W.Sink.taken c.args.sink.now) (g.W.Sink.taken c.run.new.sink) (g.W.Sink.faults c.args.sink.now) (g.W.Sink.faults c.run.new.sink) _ c.in-Err.ensures
