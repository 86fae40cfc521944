use Rattle.std.proofs.Common.{subst, ◌∙◌}
use Rattle.front_end.specs.FileFault.{IfInFile}
use Rattle.front_end.specs.FileReading.{IsIn}
use Rattle.front_end.specs.Texts.{AreTokensOf, HasBadToken, tokens_stage}
use Rattle.front_end.specs.TextReading.{IsText}
use Rattle.front_end.proofs.ChainLemmas.{stops_at}
use Rattle.front_end.proofs.FaultLemmas.{hands_on}
use Rattle.front_end.proofs.NumberedLemmas.{pairs_taken}
use Rattle.front_end.proofs.TextLemmas.{text_tokens}
use Rattle.front_end.proofs.texts.spell_each.Goals as goal

pub returns-in_err-spell : goal.returns-in_err-spell
returns-in_err-spell c =
    hands_on c.from_residual.result _ _ _ (tokens_stage.Stops c.args.files.now) c.from_residual.ensures.1
    (λ file fault. stops_at IsText AreTokensOf HasBadToken c.args.files.now c.loop-number.number c.index-files-number.result c.loop-number.texts.items file fault text_tokens c.loop-number-test.true c.loop-number.invariant)
    (subst (λ bytes. IfInFile c.in_err-spell.field-0.0 (IsIn c.loop-number.number (HasBadToken c.loop-number.number bytes))) (c.as_slice.ensures ∙ c.index-files-number.is) c.in_err-spell.ensures)

pub loop-number-preserved : goal.loop-number-preserved
loop-number-preserved c =
    pairs_taken IsText c.args.files.now c.loop-number.number c.index-files-number.result c.loop-number.texts.items c.push.new.self.items c.in_ok-spell.field-0 c.loop-number-test.true c.loop-number.invariant
    (subst (λ bytes. IsText c.loop-number.number bytes c.in_ok-spell.field-0) (c.as_slice.ensures ∙ c.index-files-number.is) c.in_ok-spell.ensures) c.in_ok-push.ensures.items
