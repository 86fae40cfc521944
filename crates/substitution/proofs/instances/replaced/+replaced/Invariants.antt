use Rattle.std.proofs.Common.{◌≡◌, ◌+◌, ◌*◌, map, take}
use Rattle.fol.specs.FormulaData.{term_size, terms_size, triggers_size, formula_size, formulas_size, terms_of, triggers_of, formulas_of}
use Rattle.substitution.specs.Instances.{binders_of}
use Rattle.substitution.specs.Replaced.{replaced_term, replaced_terms, replaced}
use Rattle.substitution.proofs.instances.replaced.+replaced.Given as goal

abbrev pub decreases-replace_in_term : goal.decreases-replace_in_term
decreases-replace_in_term l = 3 * term_size l.body.now

abbrev pub decreases-put_in_term : goal.decreases-put_in_term
decreases-put_in_term l = 3 * term_size l.body.now + 1

abbrev pub decreases-in_terms : goal.decreases-in_terms
decreases-in_terms l = 3 * terms_size (terms_of l.from.now)

abbrev pub decreases-in_trigger : goal.decreases-in_trigger
decreases-in_trigger l = 3 * terms_size l.from.now + 1

abbrev pub decreases-in_triggers : goal.decreases-in_triggers
decreases-in_triggers l = 3 * triggers_size (triggers_of l.from.now)

abbrev pub decreases-replace_in : goal.decreases-replace_in
decreases-replace_in l = 3 * formula_size l.body.now

abbrev pub decreases-put_in_formula : goal.decreases-put_in_formula
decreases-put_in_formula l = 3 * formula_size l.body.now + 1

abbrev pub decreases-in_formulas : goal.decreases-in_formulas
decreases-in_formulas l = 3 * formulas_size (formulas_of l.from.now)

abbrev pub decreases-in_unary : goal.decreases-in_unary
decreases-in_unary l = 3 * term_size l.a.now + 2

abbrev pub decreases-in_field : goal.decreases-in_field
decreases-in_field l = 3 * term_size l.a.now + 2

abbrev pub decreases-in_is : goal.decreases-in_is
decreases-in_is l = 3 * term_size l.a.now + 2

abbrev pub decreases-in_holds : goal.decreases-in_holds
decreases-in_holds l = 3 * term_size l.a.now + 2

abbrev pub decreases-in_binary : goal.decreases-in_binary
decreases-in_binary l = 3 * (term_size l.a.now + term_size l.b.now) + 2

abbrev pub decreases-in_set_field : goal.decreases-in_set_field
decreases-in_set_field l = 3 * (term_size l.a.now + term_size l.b.now) + 2

abbrev pub decreases-in_compare : goal.decreases-in_compare
decreases-in_compare l = 3 * (term_size l.a.now + term_size l.b.now) + 2

abbrev pub decreases-in_ternary : goal.decreases-in_ternary
decreases-in_ternary l = 3 * (term_size l.a.now + term_size l.b.now + term_size l.c.now) + 2

abbrev pub decreases-in_pack : goal.decreases-in_pack
decreases-in_pack l = 3 * terms_size (terms_of l.ts.now) + 1

abbrev pub decreases-in_choice : goal.decreases-in_choice
decreases-in_choice l = 3 * (formula_size l.p.now + term_size l.a.now + term_size l.b.now) + 2

abbrev pub decreases-in_not : goal.decreases-in_not
decreases-in_not l = 3 * formula_size l.p.now + 2

abbrev pub decreases-in_join : goal.decreases-in_join
decreases-in_join l = 3 * formulas_size (formulas_of l.ps.now) + 1

abbrev pub decreases-in_connect : goal.decreases-in_connect
decreases-in_connect l = 3 * (formula_size l.p.now + formula_size l.q.now) + 2

abbrev pub decreases-in_quantify : goal.decreases-in_quantify
decreases-in_quantify l = 3 * (triggers_size (triggers_of l.triggers.now) + formula_size l.p.now) + 2

abbrev pub invariant-in_terms-loop-body : goal.invariant-in_terms-loop-body
invariant-in_terms-loop-body l = l.terms.items ≡ map (replaced_term (binders_of l.binders) l.put.next l.put.variable l.put.term.now) (take l.body-index l.from)

abbrev pub invariant-in_triggers-loop-trigger : goal.invariant-in_triggers-loop-trigger
invariant-in_triggers-loop-trigger l = l.triggers.items ≡ map (replaced_terms (binders_of l.binders) l.put.next l.put.variable l.put.term.now) (take l.trigger-index l.from)

abbrev pub invariant-in_formulas-loop-body : goal.invariant-in_formulas-loop-body
invariant-in_formulas-loop-body l = l.formulas.items ≡ map (replaced (binders_of l.binders) l.put.next l.put.variable l.put.term.now) (take l.body-index l.from)
