use Rattle.std.proofs.Common.{arith, refl, subst}
use Rattle.front_end.specs.Chain.{at_second}
use Rattle.front_end.specs.FileFault.{IfInFile}
use Rattle.front_end.specs.Numbered.{Each}
use Rattle.front_end.specs.Texts.{IsLight, nesting_stage, text_stages}
use Rattle.front_end.proofs.FaultLemmas.{hands_on}
use Rattle.front_end.proofs.TextLemmas.{bad_stops, long_stops, short, short_length, texts_length}
use Rattle.front_end.proofs.texts.read_texts.Goals as goal

pub returns-in_err-spell_each : goal.returns-in_err-spell_each
returns-in_err-spell_each c =
    hands_on c.from_residual.result _ _ _ (text_stages.Stops c.args.files.now) c.from_residual.ensures.1 (bad_stops c.args.files.now) c.in_err-spell_each.ensures

pub take_short-requires : goal.take_short-requires
take_short-requires c = record { few = omega (arith, c.requires.few, texts_length c.args.files.now c.in_ok-spell_each.field-0.items c.in_ok-spell_each.ensures) }

pub returns-in_err-texts : goal.returns-in_err-texts
returns-in_err-texts c =
    hands_on c.from_residual-in_err-texts.result _ _ _ (text_stages.Stops c.args.files.now) c.from_residual-in_err-texts.ensures.1
    (λ file fault. long_stops c.args.files.now c.in_ok-spell_each.field-0.items file fault c.in_ok-spell_each.ensures) c.in_err-texts.ensures

pub check_nesting-requires : goal.check_nesting-requires
check_nesting-requires c =
    record { few = omega (arith, c.requires.few, c.as_slice.ensures.len, short_length c.args.files.now c.in_ok-spell_each.field-0.items c.in_ok-texts.texts.items c.in_ok-spell_each.ensures c.in_ok-texts.ensures) }

pub returns-in_err-check_nesting : goal.returns-in_err-check_nesting
returns-in_err-check_nesting c =
    hands_on c.from_residual-in_err-check_nesting.result _ _ _ (text_stages.Stops c.args.files.now) c.from_residual-in_err-check_nesting.ensures.1
    (λ file fault stops. at_second c.in_ok-texts.texts.items (short c.args.files.now c.in_ok-spell_each.field-0.items c.in_ok-texts.texts.items c.in_ok-spell_each.ensures c.in_ok-texts.ensures) stops)
    (subst (λ texts. IfInFile c.in_err-check_nesting.field-0.0 (nesting_stage.Stops texts)) c.as_slice.ensures.value c.in_err-check_nesting.ensures)

pub returns : goal.returns
returns c =
    record {
      between = c.in_ok-texts.texts.items;
      first = short c.args.files.now c.in_ok-spell_each.field-0.items c.in_ok-texts.texts.items c.in_ok-spell_each.ensures c.in_ok-texts.ensures;
      second = (refl, subst (Each IsLight 0) c.as_slice.ensures.value c.in_ok-check_nesting.ensures);
    }
