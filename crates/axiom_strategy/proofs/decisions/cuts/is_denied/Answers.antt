use Rattle.std.proofs.Common.{◌≡◌, inl, inr, true, false, refl}
use Rattle.axiom_strategy.proofs.decisions.cuts.is_denied.Goals as goal

pub returns-then-has : goal.returns-then-has
returns-then-has c = (λ e. inl (c.if-has.ensures.0 refl), λ h. refl)

pub returns : goal.returns
returns c = (λ e. inr (c.has-2.ensures.0 e), λ h. elim h [ inl o ↦ (let both : false ≡ true = c.if-has.ensures.1 o in absurd (cc)) | inr o ↦ c.has-2.ensures.1 o ])
