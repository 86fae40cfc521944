use Rattle.std.proofs.Common.{◌≡◌, ◌+◌, ◌*◌, drop}
use Rattle.fol.specs.FormulaData.{term_size, terms_size, triggers_size, formula_size, formulas_size, terms_of, triggers_of, formulas_of}
use Rattle.substitution.specs.Blocks.{block_length, terms_clear, triggers_clear, formulas_clear}
use Rattle.substitution.proofs.instances.unused.+clear.Given as goal

abbrev pub decreases-is_term_clear : goal.decreases-is_term_clear
decreases-is_term_clear l = 2 * term_size l.term.now

abbrev pub decreases-are_terms_clear : goal.decreases-are_terms_clear
decreases-are_terms_clear l = 2 * terms_size (terms_of l.terms.now)

abbrev pub decreases-is_trigger_clear : goal.decreases-is_trigger_clear
decreases-is_trigger_clear l = 2 * terms_size l.trigger.now + 1

abbrev pub decreases-are_triggers_clear : goal.decreases-are_triggers_clear
decreases-are_triggers_clear l = 2 * triggers_size (triggers_of l.triggers.now)

abbrev pub decreases-is_clear : goal.decreases-is_clear
decreases-is_clear l = 2 * formula_size l.formula.now

abbrev pub decreases-are_clear : goal.decreases-are_clear
decreases-are_clear l = 2 * formulas_size (formulas_of l.formulas.now)

-- the whole list is clear exactly when the rest is
abbrev pub invariant-are_terms_clear-loop-term : goal.invariant-are_terms_clear-loop-term
invariant-are_terms_clear-loop-term l =
    terms_clear l.low (l.low + block_length) (terms_of l.terms) ≡ terms_clear l.low (l.low + block_length) (terms_of (drop l.term-index l.terms))

abbrev pub invariant-are_triggers_clear-loop-trigger : goal.invariant-are_triggers_clear-loop-trigger
invariant-are_triggers_clear-loop-trigger l =
    triggers_clear l.low (l.low + block_length) (triggers_of l.triggers) ≡ triggers_clear l.low (l.low + block_length) (triggers_of (drop l.trigger-index l.triggers))

abbrev pub invariant-are_clear-loop-formula : goal.invariant-are_clear-loop-formula
invariant-are_clear-loop-formula l =
    formulas_clear l.low (l.low + block_length) (formulas_of l.formulas) ≡ formulas_clear l.low (l.low + block_length) (formulas_of (drop l.formula-index l.formulas))
