use Rattle.std.proofs.Common.{◌≡◌, ◌+◌, ◌*◌, take}
use Rattle.fol.specs.FormulaData.{term_size, terms_size, triggers_size, formula_size, formulas_size, terms_of, triggers_of, formulas_of}
use Rattle.fol.proofs.+copy.Given as goal

abbrev pub decreases-formula::Term::try_clone : goal.decreases-formula::Term::try_clone
decreases-formula::Term::try_clone l = 3 * term_size l.self.now

abbrev pub decreases-copy::copy_term : goal.decreases-copy::copy_term
decreases-copy::copy_term l = 3 * term_size l.from.now + 1

abbrev pub decreases-copy::copy_terms : goal.decreases-copy::copy_terms
decreases-copy::copy_terms l = 3 * terms_size (terms_of l.from.now)

abbrev pub decreases-copy::copy_trigger : goal.decreases-copy::copy_trigger
decreases-copy::copy_trigger l = 3 * terms_size l.from.now + 1

abbrev pub decreases-copy::copy_triggers : goal.decreases-copy::copy_triggers
decreases-copy::copy_triggers l = 3 * triggers_size (triggers_of l.from.now)

abbrev pub decreases-formula::Formula::try_clone : goal.decreases-formula::Formula::try_clone
decreases-formula::Formula::try_clone l = 3 * formula_size l.self.now

abbrev pub decreases-copy::copy_formula : goal.decreases-copy::copy_formula
decreases-copy::copy_formula l = 3 * formula_size l.from.now + 1

abbrev pub decreases-copy::copy_formulas : goal.decreases-copy::copy_formulas
decreases-copy::copy_formulas l = 3 * formulas_size (formulas_of l.from.now)

abbrev pub invariant-copy::copy_terms-loop-term : goal.invariant-copy::copy_terms-loop-term
invariant-copy::copy_terms-loop-term l = l.terms.items ≡ take l.term-index l.from

abbrev pub invariant-copy::copy_triggers-loop-trigger : goal.invariant-copy::copy_triggers-loop-trigger
invariant-copy::copy_triggers-loop-trigger l = l.triggers.items ≡ take l.trigger-index l.from

abbrev pub invariant-copy::copy_formulas-loop-formula : goal.invariant-copy::copy_formulas-loop-formula
invariant-copy::copy_formulas-loop-formula l = l.formulas.items ≡ take l.formula-index l.from

abbrev pub decreases-copy::copy_unary : goal.decreases-copy::copy_unary
decreases-copy::copy_unary l = 3 * term_size l.a.now + 2

abbrev pub decreases-copy::copy_binary : goal.decreases-copy::copy_binary
decreases-copy::copy_binary l = 3 * (term_size l.a.now + term_size l.b.now) + 2

abbrev pub decreases-copy::copy_ternary : goal.decreases-copy::copy_ternary
decreases-copy::copy_ternary l = 3 * (term_size l.a.now + term_size l.b.now + term_size l.c.now) + 2

abbrev pub decreases-copy::copy_pack : goal.decreases-copy::copy_pack
decreases-copy::copy_pack l = 3 * terms_size (terms_of l.ts.now) + 1

abbrev pub decreases-copy::copy_field : goal.decreases-copy::copy_field
decreases-copy::copy_field l = 3 * term_size l.a.now + 2

abbrev pub decreases-copy::copy_set_field : goal.decreases-copy::copy_set_field
decreases-copy::copy_set_field l = 3 * (term_size l.a.now + term_size l.b.now) + 2

abbrev pub decreases-copy::copy_if : goal.decreases-copy::copy_if
decreases-copy::copy_if l = 3 * (formula_size l.p.now + term_size l.a.now + term_size l.b.now) + 2

abbrev pub decreases-copy::copy_compare : goal.decreases-copy::copy_compare
decreases-copy::copy_compare l = 3 * (term_size l.a.now + term_size l.b.now) + 2

abbrev pub decreases-copy::copy_is : goal.decreases-copy::copy_is
decreases-copy::copy_is l = 3 * term_size l.a.now + 2

abbrev pub decreases-copy::copy_holds : goal.decreases-copy::copy_holds
decreases-copy::copy_holds l = 3 * term_size l.a.now + 2

abbrev pub decreases-copy::copy_not : goal.decreases-copy::copy_not
decreases-copy::copy_not l = 3 * formula_size l.p.now + 2

abbrev pub decreases-copy::copy_join : goal.decreases-copy::copy_join
decreases-copy::copy_join l = 3 * formulas_size (formulas_of l.ps.now) + 1

abbrev pub decreases-copy::copy_connect : goal.decreases-copy::copy_connect
decreases-copy::copy_connect l = 3 * (formula_size l.p.now + formula_size l.q.now) + 2

abbrev pub decreases-copy::copy_quantify : goal.decreases-copy::copy_quantify
decreases-copy::copy_quantify l = 3 * (triggers_size (triggers_of l.triggers.now) + formula_size l.p.now) + 2
