use Rattle.substitution.proofs.Lists.{other_length, terms_by_items, triggers_by_items, formulas_by_items}
use Rattle.substitution.proofs.instance.+instance.Goals as goal

pub are_term_instances-returns-then-body-terms : goal.are_term_instances-returns-then-body-terms
are_term_instances-returns-then-body-terms t c = other_length _ _ (terms_by_items _ _ _) _ _ c.if-body-terms.true

pub are_trigger_instances-returns-then-body-triggers : goal.are_trigger_instances-returns-then-body-triggers
are_trigger_instances-returns-then-body-triggers t c = other_length _ _ (triggers_by_items _ _ _) _ _ c.if-body-triggers.true

pub are_instances-returns-then-body-formulas : goal.are_instances-returns-then-body-formulas
are_instances-returns-then-body-formulas t c = other_length _ _ (formulas_by_items _ _ _) _ _ c.if-body-formulas.true
