use Rattle.std.proofs.Common.{◌≡◌, ◌<◌, ◌∙◌, length, get_or, subst}
use Rattle.certificates.specs.Lengths.{capped, formula_length}
use Rattle.tableau.specs.Numbers.{formula_at}
use Rattle.certificate_text.proofs.LengthsMoveLemmas.{formulas_next}
use Rattle.certificate_text.proofs.lengths.certificate.formulas_len.Goals as goal

pub loop-number-preserved : goal.loop-number-preserved
loop-number-preserved c =
    let ns = c.args.pool.now in
    let i = c.loop-number.number-index in
    let same = c.as_slice-number-items.ensures.value in
    c.sum-total.ensures
    ∙ formulas_next c.args.extension.now.formulas.items i 0 (subst (λ ks. i < length ks) same c.loop-number-test.true) c.loop-number.total c.formula_len.result (formula_at ns) c.loop-number.invariant
    (subst (λ ks. c.formula_len.result ≡ capped (formula_length (formula_at ns (get_or ks i 0)))) same c.formula_len.ensures)
