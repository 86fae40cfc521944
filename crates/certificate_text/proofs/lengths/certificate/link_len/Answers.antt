use Rattle.std.proofs.Common.{◌∙◌, sym, ap}
use Rattle.certificates.specs.Lengths.{capped, formula_length}
use Rattle.tableau.specs.Numbers.{formula_at}
use Rattle.certificate_text.proofs.ItemLemmas.{count_one}
use Rattle.certificate_text.proofs.LengthsMoveLemmas.{rewriting_length}
use Rattle.certificate_text.proofs.lengths.certificate.link_len.Goals as goal

pub returns-in-Rewritten : goal.returns-in-Rewritten
returns-in-Rewritten c =
    let ns = c.args.pool.now in
    let r = c.in-Rewritten.rewriting in
    c.sum-in-Rewritten.ensures
    ∙ count_one 9 c.formula_len-in-Rewritten.result (formula_length (formula_at ns r.formula)) c.formula_len-in-Rewritten.ensures
    ∙ ap capped (sym (rewriting_length ns c.args.link r c.in-Rewritten.is))
