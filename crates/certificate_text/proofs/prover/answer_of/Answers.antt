use Rattle.std.proofs.Common.{◌∙◌, sym}
use Rattle.certificate_text.proofs.ProverLemmas.{ended_other, still_proved, still_readable, still_searched}
use Rattle.certificate_text.proofs.prover.answer_of.Goals as goal

pub returns-then-not-is_proved : goal.returns-then-not-is_proved
returns-then-not-is_proved c = λ shapes sought before after h. ended_other shapes sought before after c.args.search h (sym c.is_proved.ensures ∙ c.if-not-is_proved.true)

pub answer_of_proof-requires-clause-readable : goal.answer_of_proof-requires-clause-readable
answer_of_proof-requires-clause-readable c = still_readable c.args.search c.in_ok-compacted.compacted c.in_ok-compacted.ensures c.requires

pub answer_of_proof-requires-clause-proved : goal.answer_of_proof-requires-clause-proved
answer_of_proof-requires-clause-proved c =
    still_proved c.args.search c.in_ok-compacted.compacted c.in_ok-compacted.ensures (sym c.is_proved.ensures ∙ c.if-not-is_proved.false)

pub returns : goal.returns
returns c = λ shapes sought before after h.
    c.answer_of_proof.ensures shapes sought before after
    (still_searched c.args.search c.in_ok-compacted.compacted c.in_ok-compacted.ensures (sym c.is_proved.ensures ∙ c.if-not-is_proved.false) shapes sought before after h)
