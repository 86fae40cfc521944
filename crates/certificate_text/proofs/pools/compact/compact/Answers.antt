use Rattle.std.proofs.Common.{ℕ, Bool, List, subst}
use Rattle.std.specs.List.{AllZip}
use Rattle.certificate_text.specs.Nodes.{AreNumbers}
use Rattle.certificate_text.specs.Applications.{IsApplicationAnew}
use Rattle.certificate_text.proofs.ApplicationLemmas.{same_applications}
use Rattle.certificate_text.proofs.PoolsFitLemmas.{still_fit}
use Rattle.certificate_text.proofs.pools.compact.compact.Goals as goal

pub returns-clause-applications : goal.returns-clause-applications
returns-clause-applications c = λ applications are. (
    let ns = c.args.pool.now in
    let ms = c.in_ok-made.made in
    let ks = c.in_ok-made.numbers.items in
    let marks = c.in_ok-marks.marks.items in
    let old = c.args.text.now in
    let new = c.renumber.new.text in
    let anew = subst (λ (xs : List ℕ). AllZip (IsApplicationAnew xs) old new) c.as_slice-2.ensures.value c.renumber.ensures in
    let numbers = subst (λ (bs : List Bool). AreNumbers ns ms bs ks) c.as_slice.ensures.value c.in_ok-made.ensures.numbers in
    same_applications ns ms ks marks old new anew c.in_ok-marks.ensures.needed numbers c.in_ok-made.ensures.len applications are)

pub returns-clause-fit : goal.returns-clause-fit
returns-clause-fit c = λ fits. still_fit c.as_slice-2.result.now c.args.text.now c.renumber.new.text c.renumber.ensures fits
