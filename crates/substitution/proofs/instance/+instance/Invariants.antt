use Rattle.std.proofs.Common.{◌+◌, ◌*◌}
use Rattle.fol.specs.FormulaData.{term_size, terms_size, triggers_size, formula_size, formulas_size, terms_of, triggers_of, formulas_of}
use Rattle.substitution.specs.Instances.{binders_of, IsTermInstance, AreTermInstances, AreTriggerInstances, IsInstanceUnder, AreInstances}
use Rattle.substitution.proofs.Lists.{From}
use Rattle.substitution.proofs.instance.+instance.Given as goal

abbrev pub decreases-is_term_instance : goal.decreases-is_term_instance
decreases-is_term_instance l = 2 * term_size l.body.now

abbrev pub decreases-are_term_instances : goal.decreases-are_term_instances
decreases-are_term_instances l = 2 * terms_size (terms_of l.body.now)

abbrev pub decreases-is_trigger_instance : goal.decreases-is_trigger_instance
decreases-is_trigger_instance l = 2 * terms_size l.body.now + 1

abbrev pub decreases-are_trigger_instances : goal.decreases-are_trigger_instances
decreases-are_trigger_instances l = 2 * triggers_size (triggers_of l.body.now)

abbrev pub decreases-is_instance_under : goal.decreases-is_instance_under
decreases-is_instance_under l = 2 * formula_size l.body.now

abbrev pub decreases-are_instances : goal.decreases-are_instances
decreases-are_instances l = 2 * formulas_size (formulas_of l.body.now)

abbrev pub invariant-are_term_instances-loop-i : goal.invariant-are_term_instances-loop-i
invariant-are_term_instances-loop-i l =
    From (λ ts us. AreTermInstances (binders_of l.binders) l.put.variable l.put.term.now (terms_of ts) (terms_of us)) (IsTermInstance (binders_of l.binders) l.put.variable l.put.term.now) l.i l.body l.terms

abbrev pub invariant-are_trigger_instances-loop-i : goal.invariant-are_trigger_instances-loop-i
invariant-are_trigger_instances-loop-i l =
    From (λ ts us. AreTriggerInstances (binders_of l.binders) l.put.variable l.put.term.now (triggers_of ts) (triggers_of us)) (AreTermInstances (binders_of l.binders) l.put.variable l.put.term.now) l.i l.body l.triggers

abbrev pub invariant-are_instances-loop-i : goal.invariant-are_instances-loop-i
invariant-are_instances-loop-i l =
    From (λ ts us. AreInstances (binders_of l.binders) l.put.variable l.put.term.now (formulas_of ts) (formulas_of us)) (IsInstanceUnder (binders_of l.binders) l.put.variable l.put.term.now) l.i l.body l.formulas
