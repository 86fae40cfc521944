use Rattle.std.proofs.Common.{◌≡◌, ◌∙◌, true, false, refl}
use Rattle.certificate_text.proofs.ItemLemmas.{formula_counted, formula_other}
use Rattle.certificate_text.proofs.lengths.items.formula_len.Goals as goal

pub returns-then-not-is_formula : goal.returns-then-not-is_formula
returns-then-not-is_formula c =
    formula_other c.args.pool.now c.args.lens.now c.requires c.args.number (λ h. (let both : false ≡ true = c.if-not-is_formula.ensures.1 h in absurd (cc)))

pub returns : goal.returns
returns c = c.len_at.ensures ∙ formula_counted c.args.pool.now c.args.lens.now c.requires c.args.number (c.if-not-is_formula.ensures.0 refl)
