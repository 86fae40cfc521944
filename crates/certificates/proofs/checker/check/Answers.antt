use Rattle.std.proofs.Common.{List, ◌∙◌, subst}
use Rattle.certificates.specs.CertData.{MoveData}
use Rattle.certificates.specs.Closes.{Certifies}
use Rattle.certificates.proofs.Sound.{certified_valid}
use Rattle.certificates.proofs.checker.check.Goals as goal

pub returns-clause-sound : goal.returns-clause-sound
returns-clause-sound c = λ h.
    let moves = subst (λ (ms : List MoveData). Certifies c.args.shapes.now ms c.args.formula.now) (c.as_slice.ensures.value ∙ c.cert.view_is) (c.is_certificate.ensures.0 h) in
    certified_valid c.args.shapes.now c.args.cert.now c.args.formula.now moves
