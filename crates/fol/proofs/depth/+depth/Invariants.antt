use Rattle.std.proofs.Common.{◌≡◌, ℕ, ◌+◌, ◌*◌, max, drop}
use Rattle.fol.specs.FormulaData.{term_size, terms_size, triggers_size, formula_size, formulas_size, terms_of, triggers_of, formulas_of}
use Rattle.fol.specs.Depth.{terms_depth, triggers_depth, formulas_depth}
use Rattle.fol.proofs.depth.+depth.Given as goal

abbrev pub decreases-is_term_deeper : goal.decreases-is_term_deeper
decreases-is_term_deeper l = 2 * term_size l.term.now

abbrev pub decreases-is_any_term_deeper : goal.decreases-is_any_term_deeper
decreases-is_any_term_deeper l = 2 * terms_size (terms_of l.terms.now)

abbrev pub decreases-is_trigger_deeper : goal.decreases-is_trigger_deeper
decreases-is_trigger_deeper l = 2 * terms_size l.trigger.now + 1

abbrev pub decreases-is_any_trigger_deeper : goal.decreases-is_any_trigger_deeper
decreases-is_any_trigger_deeper l = 2 * triggers_size (triggers_of l.triggers.now)

abbrev pub decreases-is_deeper : goal.decreases-is_deeper
decreases-is_deeper l = 2 * formula_size l.formula.now

abbrev pub decreases-is_any_deeper : goal.decreases-is_any_deeper
decreases-is_any_deeper l = 2 * formulas_size (formulas_of l.formulas.now)

-- no item so far is deeper than the limit
abbrev pub invariant-is_any_term_deeper-loop-term : goal.invariant-is_any_term_deeper-loop-term
invariant-is_any_term_deeper-loop-term l =
    max l.limit (terms_depth (terms_of l.terms)) ≡ max l.limit (terms_depth (terms_of (drop l.term-index l.terms)))

abbrev pub invariant-is_any_trigger_deeper-loop-trigger : goal.invariant-is_any_trigger_deeper-loop-trigger
invariant-is_any_trigger_deeper-loop-trigger l =
    max l.limit (triggers_depth (triggers_of l.triggers)) ≡ max l.limit (triggers_depth (triggers_of (drop l.trigger-index l.triggers)))

abbrev pub invariant-is_any_deeper-loop-formula : goal.invariant-is_any_deeper-loop-formula
invariant-is_any_deeper-loop-formula l =
    max l.limit (formulas_depth (formulas_of l.formulas)) ≡ max l.limit (formulas_depth (formulas_of (drop l.formula-index l.formulas)))
