use Rattle.std.proofs.Common.{◌≡◌, ◌+◌, ◌*◌, drop}
use Rattle.fol.specs.FormulaData.{term_size, terms_size, triggers_size, formula_size, formulas_size, terms_of, triggers_of, formulas_of}
use Rattle.substitution.specs.Free.{free_in_terms, free_in_triggers, free_in_formulas}
use Rattle.substitution.proofs.free.+free.Given as goal

abbrev pub decreases-is_free_in_term : goal.decreases-is_free_in_term
decreases-is_free_in_term l = 2 * term_size l.term.now

abbrev pub decreases-is_free_in_terms : goal.decreases-is_free_in_terms
decreases-is_free_in_terms l = 2 * terms_size (terms_of l.terms.now)

abbrev pub decreases-is_free_in_trigger : goal.decreases-is_free_in_trigger
decreases-is_free_in_trigger l = 2 * terms_size l.trigger.now + 1

abbrev pub decreases-is_free_in_triggers : goal.decreases-is_free_in_triggers
decreases-is_free_in_triggers l = 2 * triggers_size (triggers_of l.triggers.now)

abbrev pub decreases-is_free_in : goal.decreases-is_free_in
decreases-is_free_in l = 2 * formula_size l.formula.now

abbrev pub decreases-is_free_in_formulas : goal.decreases-is_free_in_formulas
decreases-is_free_in_formulas l = 2 * formulas_size (formulas_of l.formulas.now)

-- the variable is free in the whole list exactly when it is free in the rest
abbrev pub invariant-is_free_in_terms-loop-term : goal.invariant-is_free_in_terms-loop-term
invariant-is_free_in_terms-loop-term l =
    free_in_terms l.variable (terms_of l.terms) ≡ free_in_terms l.variable (terms_of (drop l.term-index l.terms))

abbrev pub invariant-is_free_in_triggers-loop-trigger : goal.invariant-is_free_in_triggers-loop-trigger
invariant-is_free_in_triggers-loop-trigger l =
    free_in_triggers l.variable (triggers_of l.triggers) ≡ free_in_triggers l.variable (triggers_of (drop l.trigger-index l.triggers))

abbrev pub invariant-is_free_in_formulas-loop-formula : goal.invariant-is_free_in_formulas-loop-formula
invariant-is_free_in_formulas-loop-formula l =
    free_in_formulas l.variable (formulas_of l.formulas) ≡ free_in_formulas l.variable (formulas_of (drop l.formula-index l.formulas))
