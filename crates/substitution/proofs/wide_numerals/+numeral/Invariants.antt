use Rattle.std.proofs.Common.{◌+◌, ◌*◌, take}
use Rattle.std.specs.List.{flat_map}
use Rattle.fol.specs.FormulaData.{term_size, terms_size, triggers_size, formula_size, formulas_size, terms_of, triggers_of, formulas_of}
use Rattle.substitution.specs.Numerals.{numerals_of_term, numerals_of_terms, numerals_of, HasNoWide}
use Rattle.substitution.proofs.wide_numerals.+numeral.Given as goal

abbrev pub decreases-term_numeral : goal.decreases-term_numeral
decreases-term_numeral l = 2 * term_size l.term.now

abbrev pub decreases-terms_numeral : goal.decreases-terms_numeral
decreases-terms_numeral l = 2 * terms_size (terms_of l.terms.now)

abbrev pub decreases-trigger_numeral : goal.decreases-trigger_numeral
decreases-trigger_numeral l = 2 * terms_size l.trigger.now + 1

abbrev pub decreases-triggers_numeral : goal.decreases-triggers_numeral
decreases-triggers_numeral l = 2 * triggers_size (triggers_of l.triggers.now)

abbrev pub decreases-wide_numeral : goal.decreases-wide_numeral
decreases-wide_numeral l = 2 * formula_size l.formula.now

abbrev pub decreases-formulas_numeral : goal.decreases-formulas_numeral
decreases-formulas_numeral l = 2 * formulas_size (formulas_of l.formulas.now)

-- the items so far have no such numeral
abbrev pub invariant-terms_numeral-loop-term : goal.invariant-terms_numeral-loop-term
invariant-terms_numeral-loop-term l = HasNoWide (flat_map numerals_of_term (take l.term-index l.terms))

abbrev pub invariant-triggers_numeral-loop-trigger : goal.invariant-triggers_numeral-loop-trigger
invariant-triggers_numeral-loop-trigger l = HasNoWide (flat_map numerals_of_terms (take l.trigger-index l.triggers))

abbrev pub invariant-formulas_numeral-loop-formula : goal.invariant-formulas_numeral-loop-formula
invariant-formulas_numeral-loop-formula l = HasNoWide (flat_map numerals_of (take l.formula-index l.formulas))
