use Rattle.std.proofs.Common.{◌≡◌, ◌≤◌, ◌+◌, ◌*◌, ◌++◌, max}
use Rattle.fol.specs.FormulaData.{list_of_terms, list_of_triggers, list_of_formulas}
use Rattle.term_pool.specs.Items.{terms_in, triggers_in, formulas_in}
use Rattle.term_pool.specs.Pools.{item_at}
use Rattle.term_pool.proofs.reading.+read_term.Given as goal

-- in each loop: the items so far and those of the rest are all items

abbrev pub invariant-read_terms-loop-first : goal.invariant-read_terms-loop-first
invariant-read_terms-loop-first l = record {
  all : l.items.items ++ list_of_terms (terms_in (item_at l.pool l.list)) ≡ list_of_terms (terms_in (item_at l.pool l.number));
  earlier : l.list ≤ l.number;
}

abbrev pub decreases-read_terms-loop-first : goal.decreases-read_terms-loop-first
decreases-read_terms-loop-first l = l.list

abbrev pub invariant-read_triggers-loop-first : goal.invariant-read_triggers-loop-first
invariant-read_triggers-loop-first l = record {
  all : l.items.items ++ list_of_triggers (triggers_in (item_at l.pool l.list)) ≡ list_of_triggers (triggers_in (item_at l.pool l.number));
  earlier : l.list ≤ l.number;
}

abbrev pub decreases-read_triggers-loop-first : goal.decreases-read_triggers-loop-first
decreases-read_triggers-loop-first l = l.list

abbrev pub invariant-read_formulas-loop-first : goal.invariant-read_formulas-loop-first
invariant-read_formulas-loop-first l = record {
  all : l.items.items ++ list_of_formulas (formulas_in (item_at l.pool l.list)) ≡ list_of_formulas (formulas_in (item_at l.pool l.number));
  earlier : l.list ≤ l.number;
}

abbrev pub decreases-read_formulas-loop-first : goal.decreases-read_formulas-loop-first
decreases-read_formulas-loop-first l = l.list

abbrev pub decreases-read_term : goal.decreases-read_term
decreases-read_term l = 4 * l.number + 1

abbrev pub decreases-read_formula : goal.decreases-read_formula
decreases-read_formula l = 4 * l.number + 1

abbrev pub decreases-read_terms : goal.decreases-read_terms
decreases-read_terms l = 4 * l.number + 1

abbrev pub decreases-read_formulas : goal.decreases-read_formulas
decreases-read_formulas l = 4 * l.number + 1

abbrev pub decreases-read_triggers : goal.decreases-read_triggers
decreases-read_triggers l = 4 * l.number + 2

abbrev pub decreases-read_trigger : goal.decreases-read_trigger
decreases-read_trigger l = 4 * l.number + 2

abbrev pub decreases-read_boxed_term : goal.decreases-read_boxed_term
decreases-read_boxed_term l = 4 * l.number + 2

abbrev pub decreases-read_boxed_formula : goal.decreases-read_boxed_formula
decreases-read_boxed_formula l = 4 * l.number + 2

abbrev pub decreases-read_one_term : goal.decreases-read_one_term
decreases-read_one_term l = 4 * l.a + 3

abbrev pub decreases-read_one_formula : goal.decreases-read_one_formula
decreases-read_one_formula l = 4 * l.a + 3

abbrev pub decreases-read_two_term : goal.decreases-read_two_term
decreases-read_two_term l = 4 * max l.a l.b + 3

abbrev pub decreases-read_two_formula : goal.decreases-read_two_formula
decreases-read_two_formula l = 4 * max l.a l.b + 3

abbrev pub decreases-read_three_term : goal.decreases-read_three_term
decreases-read_three_term l = 4 * max l.a (max l.b l.c) + 3
