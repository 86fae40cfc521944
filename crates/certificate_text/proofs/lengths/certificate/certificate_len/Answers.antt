use Rattle.std.proofs.Common.{◌≡◌, ◌∙◌, sym, subst}
use Rattle.std.proofs.lemmas.List.Elements.{All-get_or}
use Rattle.certificates.specs.Moves.{all_moves}
use Rattle.certificates.specs.Lengths.{capped, moves_length}
use Rattle.certificate_text.specs.Moves.{moves_of_application, FitsApplication}
use Rattle.certificate_text.proofs.LengthsMoveLemmas.{applications_next, applications_whole}
use Rattle.certificate_text.proofs.lengths.certificate.certificate_len.Goals as goal

pub application_len-requires-clause-fits : goal.application_len-requires-clause-fits
application_len-requires-clause-fits c =
    let text = c.args.text.now in
    let x = c.application-item.result in
    subst FitsApplication (sym c.application-item.is) (All-get_or FitsApplication text c.loop-application.application-index x c.loop-application-test.true c.requires.fits.each)

pub loop-application-preserved : goal.loop-application-preserved
loop-application-preserved c =
    let ns = c.args.pool.now in
    let text = c.args.text.now in
    let x = c.application-item.result in
    c.sum-total.ensures ∙ applications_next text c.loop-application.application-index x c.loop-application-test.true c.loop-application.total c.application_len.result (moves_of_application ns) 1 c.loop-application.invariant
    (subst (λ y. c.application_len.result ≡ capped (moves_length (moves_of_application ns y))) c.application-item.is c.application_len.ensures)

pub returns : goal.returns
returns c = λ applications are. (
    let text = c.args.text.now in
    c.lengths_of_moves.ensures (all_moves applications) c.loop-application.total
    (applications_whole (moves_of_application c.args.pool.now) text c.loop-application.application-index c.loop-application.total (all_moves applications) c.loop-application-test.false (c.moves_by_number.ensures c.args.pool.now text applications are) c.loop-application.invariant))
