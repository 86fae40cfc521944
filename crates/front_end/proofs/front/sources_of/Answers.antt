use Rattle.std.proofs.Common.{arith, refl, subst}
use Rattle.front_end.specs.Chain.{at_first, at_second, ◌▷◌}
use Rattle.front_end.specs.FileFault.{IfInFile}
use Rattle.front_end.specs.LocalCounts.{HasFewLocals, locals_stage}
use Rattle.front_end.specs.Numbered.{Each}
use Rattle.front_end.specs.Program.{source_stages}
use Rattle.front_end.specs.Sources.{source_stage}
use Rattle.front_end.specs.Texts.{text_stages}
use Rattle.front_end.proofs.FaultLemmas.{hands_on}
use Rattle.front_end.proofs.StageLaws.{read_keeps, text_keeps}
use Rattle.front_end.proofs.front.sources_of.Goals as goal

pub returns-in_err-texts : goal.returns-in_err-texts
returns-in_err-texts c =
    hands_on c.from_residual.result _ _ _ (source_stages.Stops c.args.files.now) c.from_residual.ensures.1 (λ file fault stops. at_first (at_first stops)) c.in_err-texts.ensures

pub read_sources-requires : goal.read_sources-requires
read_sources-requires c = record { few = omega (arith, c.requires.few, c.as_slice.ensures.len, text_keeps c.args.files.now c.in_ok-texts.texts.items c.in_ok-texts.ensures) }

pub returns-in_err-sources : goal.returns-in_err-sources
returns-in_err-sources c =
    hands_on c.from_residual-in_err-sources.result _ _ _ (source_stages.Stops c.args.files.now) c.from_residual-in_err-sources.ensures.1
    (λ file fault stops. at_first (at_second c.in_ok-texts.texts.items c.in_ok-texts.ensures stops))
    (subst (λ texts. IfInFile c.in_err-sources.field-0.0 (source_stage.Stops texts)) c.as_slice.ensures.value c.in_err-sources.ensures)

pub check_locals-requires : goal.check_locals-requires
check_locals-requires c =
    let read : (text_stages ▷ source_stage).Gives c.args.files.now c.in_ok-sources.sources.items = record { between = c.in_ok-texts.texts.items; first = c.in_ok-texts.ensures; second = subst (λ texts. source_stage.Gives texts c.in_ok-sources.sources.items) c.as_slice.ensures.value c.in_ok-sources.ensures } in
    record { few = omega (arith, c.requires.few, c.as_slice-2.ensures.len, read_keeps c.args.files.now c.in_ok-sources.sources.items read) }

pub returns-in_err-check_locals : goal.returns-in_err-check_locals
returns-in_err-check_locals c =
    let read : (text_stages ▷ source_stage).Gives c.args.files.now c.in_ok-sources.sources.items = record { between = c.in_ok-texts.texts.items; first = c.in_ok-texts.ensures; second = subst (λ texts. source_stage.Gives texts c.in_ok-sources.sources.items) c.as_slice.ensures.value c.in_ok-sources.ensures } in
    hands_on c.from_residual-in_err-check_locals.result _ _ _ (source_stages.Stops c.args.files.now) c.from_residual-in_err-check_locals.ensures.1
    (λ file fault stops. at_second c.in_ok-sources.sources.items read stops)
    (subst (λ sources. IfInFile c.in_err-check_locals.field-0.0 (locals_stage.Stops sources)) c.as_slice-2.ensures.value c.in_err-check_locals.ensures)

pub returns : goal.returns
returns c =
    let read : (text_stages ▷ source_stage).Gives c.args.files.now c.in_ok-sources.sources.items = record { between = c.in_ok-texts.texts.items; first = c.in_ok-texts.ensures; second = subst (λ texts. source_stage.Gives texts c.in_ok-sources.sources.items) c.as_slice.ensures.value c.in_ok-sources.ensures } in
    record { between = c.in_ok-sources.sources.items; first = read; second = (refl, subst (Each HasFewLocals 0) c.as_slice-2.ensures.value c.in_ok-check_locals.ensures) }
