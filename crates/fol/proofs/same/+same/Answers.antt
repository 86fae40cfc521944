use Rattle.std.proofs.Common.{ap, length}
use Rattle.fol.specs.FormulaData.{terms_of_injective, triggers_of_injective, formulas_of_injective}
use Rattle.fol.proofs.same.+same.Goals as goal

pub same_terms-returns-then-left-right-clause-whole : goal.same_terms-returns-then-left-right-clause-whole
same_terms-returns-then-left-right-clause-whole t c =
    (λ h. absurd (cc), λ e. absurd (c.if-left-right.true (ap length (terms_of_injective _ _ e))))

pub same_triggers-returns-then-left-right-clause-whole : goal.same_triggers-returns-then-left-right-clause-whole
same_triggers-returns-then-left-right-clause-whole t c =
    (λ h. absurd (cc), λ e. absurd (c.if-left-right.true (ap length (triggers_of_injective _ _ e))))

pub same_formulas-returns-then-left-right-clause-whole : goal.same_formulas-returns-then-left-right-clause-whole
same_formulas-returns-then-left-right-clause-whole t c =
    (λ h. absurd (cc), λ e. absurd (c.if-left-right.true (ap length (formulas_of_injective _ _ e))))
