use Rattle.std.proofs.Common.{subst}
use Rattle.front_end.specs.FileFault.{IfInFile}
use Rattle.front_end.specs.FileReading.{IsIn}
use Rattle.front_end.specs.Sources.{Denote, DenoteNone, source_stage}
use Rattle.front_end.proofs.ChainLemmas.{stops_at}
use Rattle.front_end.proofs.FaultLemmas.{hands_on}
use Rattle.front_end.proofs.NumberedLemmas.{pairs_taken}
use Rattle.front_end.proofs.sources.read_sources.Goals as goal

pub returns-in_err-read_source : goal.returns-in_err-read_source
returns-in_err-read_source c =
    hands_on c.from_residual.result _ _ _ (source_stage.Stops c.args.texts.now) c.from_residual.ensures.1
    (λ file fault. stops_at Denote Denote DenoteNone c.args.texts.now c.loop-number.number c.index-texts-number.result c.loop-number.sources.items file fault (λ n tokens source s. (source, s)) c.loop-number-test.true c.loop-number.invariant)
    (subst (λ tokens. IfInFile c.in_err-read_source.field-0.0 (IsIn c.loop-number.number (DenoteNone c.loop-number.number tokens))) c.index-texts-number.is c.in_err-read_source.ensures)

pub loop-number-preserved : goal.loop-number-preserved
loop-number-preserved c =
    pairs_taken Denote c.args.texts.now c.loop-number.number c.index-texts-number.result c.loop-number.sources.items c.push.new.self.items c.in_ok-read_source.field-0 c.loop-number-test.true c.loop-number.invariant
    (subst (λ tokens. Denote c.loop-number.number tokens c.in_ok-read_source.field-0) c.index-texts-number.is c.in_ok-read_source.ensures) c.in_ok-push.ensures.items
