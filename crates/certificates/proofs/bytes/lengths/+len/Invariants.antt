use Rattle.std.proofs.Common.{◌≡◌, ◌+◌, ◌-◌, ◌*◌, ◌^◌, ◌≤◌, drop}
use Rattle.fol.specs.FormulaData.{term_size, terms_size, triggers_size, formula_size, formulas_size, terms_of, triggers_of, formulas_of}
use Rattle.certificates.specs.Lengths.{capped, terms_length, triggers_length, formulas_length}
use Rattle.certificates.proofs.bytes.lengths.+len.Given as goal

abbrev pub decreases-term_len : goal.decreases-term_len
decreases-term_len l = 2 * term_size l.term.now

abbrev pub decreases-terms_len : goal.decreases-terms_len
decreases-terms_len l = 2 * terms_size (terms_of l.terms.now)

abbrev pub decreases-trigger_len : goal.decreases-trigger_len
decreases-trigger_len l = 2 * terms_size l.trigger.now + 1

abbrev pub decreases-triggers_len : goal.decreases-triggers_len
decreases-triggers_len l = 2 * triggers_size (triggers_of l.triggers.now)

abbrev pub decreases-formula_len : goal.decreases-formula_len
decreases-formula_len l = 2 * formula_size l.formula.now

abbrev pub decreases-formulas_len : goal.decreases-formulas_len
decreases-formulas_len l = 2 * formulas_size (formulas_of l.formulas.now)

-- the sum of the count so far and the length of the rest is the whole
abbrev pub invariant-terms_len-loop-term : goal.invariant-terms_len-loop-term
invariant-terms_len-loop-term l =
    (capped (l.total + terms_length (terms_of (drop l.term-index l.terms))) ≡ capped (terms_length (terms_of l.terms))) × (l.total ≤ 2 ^ 64 - 1)

abbrev pub invariant-triggers_len-loop-trigger : goal.invariant-triggers_len-loop-trigger
invariant-triggers_len-loop-trigger l =
    (capped (l.total + triggers_length (triggers_of (drop l.trigger-index l.triggers))) ≡ capped (triggers_length (triggers_of l.triggers))) × (l.total ≤ 2 ^ 64 - 1)

abbrev pub invariant-formulas_len-loop-formula : goal.invariant-formulas_len-loop-formula
invariant-formulas_len-loop-formula l =
    (capped (l.total + formulas_length (formulas_of (drop l.formula-index l.formulas))) ≡ capped (formulas_length (formulas_of l.formulas))) × (l.total ≤ 2 ^ 64 - 1)
