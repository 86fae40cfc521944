use Rattle.std.proofs.Common.{◌≡◌, ◌∙◌, true, false, refl}
use Rattle.certificate_text.proofs.ItemLemmas.{term_counted, term_other}
use Rattle.certificate_text.proofs.lengths.items.term_len.Goals as goal

pub returns-then-not-is_term : goal.returns-then-not-is_term
returns-then-not-is_term c =
    term_other c.args.pool.now c.args.lens.now c.requires c.args.number (λ h. (let both : false ≡ true = c.if-not-is_term.ensures.1 h in absurd (cc)))

pub returns : goal.returns
returns c = c.len_at.ensures ∙ term_counted c.args.pool.now c.args.lens.now c.requires c.args.number (c.if-not-is_term.ensures.0 refl)
