use Rattle.std.proofs.Common.{◌≤◌, ◌+◌, ◌*◌, length, drop}
use Rattle.fol.specs.FormulaData.{term_size, terms_size, triggers_size, formula_size, formulas_size, terms_of, triggers_of, formulas_of}
use Rattle.term_pool.specs.Items.{TermsItem, TriggersItem, FormulasItem}
use Rattle.term_pool.specs.Pools.{IsItem, Extends}
use Rattle.term_pool.proofs.interning.+terms.Given as goal

abbrev pub invariant-intern_terms-loop-rest : goal.invariant-intern_terms-loop-rest
invariant-intern_terms-loop-rest l = record {
  extends : Extends l.fn.pool l.pool;
  list : IsItem l.pool l.list (TermsItem (terms_of (drop l.rest l.terms)));
  within : l.rest ≤ length l.terms;
}

abbrev pub decreases-intern_terms-loop-rest : goal.decreases-intern_terms-loop-rest
decreases-intern_terms-loop-rest l = l.rest

abbrev pub invariant-intern_triggers-loop-rest : goal.invariant-intern_triggers-loop-rest
invariant-intern_triggers-loop-rest l = record {
  extends : Extends l.fn.pool l.pool;
  list : IsItem l.pool l.list (TriggersItem (triggers_of (drop l.rest l.triggers)));
  within : l.rest ≤ length l.triggers;
}

abbrev pub decreases-intern_triggers-loop-rest : goal.decreases-intern_triggers-loop-rest
decreases-intern_triggers-loop-rest l = l.rest

abbrev pub invariant-intern_formulas-loop-rest : goal.invariant-intern_formulas-loop-rest
invariant-intern_formulas-loop-rest l = record {
  extends : Extends l.fn.pool l.pool;
  list : IsItem l.pool l.list (FormulasItem (formulas_of (drop l.rest l.formulas)));
  within : l.rest ≤ length l.formulas;
}

abbrev pub decreases-intern_formulas-loop-rest : goal.decreases-intern_formulas-loop-rest
decreases-intern_formulas-loop-rest l = l.rest

abbrev pub decreases-intern_term : goal.decreases-intern_term
decreases-intern_term l = 2 * term_size l.term.now

abbrev pub decreases-intern_formula : goal.decreases-intern_formula
decreases-intern_formula l = 2 * formula_size l.formula.now

abbrev pub decreases-intern_terms : goal.decreases-intern_terms
decreases-intern_terms l = 2 * terms_size (terms_of l.terms.now)

abbrev pub decreases-intern_trigger : goal.decreases-intern_trigger
decreases-intern_trigger l = 2 * terms_size l.trigger.now + 1

abbrev pub decreases-intern_triggers : goal.decreases-intern_triggers
decreases-intern_triggers l = 2 * triggers_size (triggers_of l.triggers.now)

abbrev pub decreases-intern_formulas : goal.decreases-intern_formulas
decreases-intern_formulas l = 2 * formulas_size (formulas_of l.formulas.now)

abbrev pub decreases-intern_term_part : goal.decreases-intern_term_part
decreases-intern_term_part l = 2 * term_size l.a.now + 1

abbrev pub decreases-intern_formula_part : goal.decreases-intern_formula_part
decreases-intern_formula_part l = 2 * formula_size l.p.now + 1

abbrev pub decreases-intern_two_terms : goal.decreases-intern_two_terms
decreases-intern_two_terms l = 2 * (term_size l.a.now + term_size l.b.now) + 1

abbrev pub decreases-intern_two_formulas : goal.decreases-intern_two_formulas
decreases-intern_two_formulas l = 2 * (formula_size l.p.now + formula_size l.q.now) + 1

abbrev pub decreases-intern_typed : goal.decreases-intern_typed
decreases-intern_typed l = 2 * term_size l.a.now + 1

abbrev pub decreases-intern_ternary : goal.decreases-intern_ternary
decreases-intern_ternary l = 2 * (term_size l.a.now + term_size l.b.now + term_size l.c.now) + 1

abbrev pub decreases-intern_pack : goal.decreases-intern_pack
decreases-intern_pack l = 2 * terms_size (terms_of l.ts.now) + 1

abbrev pub decreases-intern_set_field : goal.decreases-intern_set_field
decreases-intern_set_field l = 2 * (term_size l.a.now + term_size l.b.now) + 1

abbrev pub decreases-intern_if : goal.decreases-intern_if
decreases-intern_if l = 2 * (formula_size l.p.now + term_size l.a.now + term_size l.b.now) + 1

abbrev pub decreases-intern_join : goal.decreases-intern_join
decreases-intern_join l = 2 * formulas_size (formulas_of l.ps.now) + 1

abbrev pub decreases-intern_quantify : goal.decreases-intern_quantify
decreases-intern_quantify l = 2 * (triggers_size (triggers_of l.triggers.now) + formula_size l.p.now) + 1
