use Rattle.std.proofs.Common.{◌+◌, ◌*◌}
use Rattle.fol.specs.FormulaData.{term_size, terms_size, triggers_size, formula_size, formulas_size, terms_of, triggers_of, formulas_of}
use Rattle.std.specs.Slice.Iter.{iter_rest}
use Rattle.std.specs.Iterator.Adapters.{zip_first, zip_second}
use Rattle.fol.proofs.AlikeLists.{Alike}
use Rattle.fol.proofs.same.+same.Given as goal

abbrev pub decreases-same_term : goal.decreases-same_term
decreases-same_term l = 2 * term_size l.left.now

abbrev pub decreases-same_terms : goal.decreases-same_terms
decreases-same_terms l = 2 * terms_size (terms_of l.left.now)

abbrev pub decreases-same_trigger : goal.decreases-same_trigger
decreases-same_trigger l = 2 * terms_size l.left.now + 1

abbrev pub decreases-same_triggers : goal.decreases-same_triggers
decreases-same_triggers l = 2 * triggers_size (triggers_of l.left.now)

abbrev pub decreases-same_formula : goal.decreases-same_formula
decreases-same_formula l = 2 * formula_size l.left.now

abbrev pub decreases-same_formulas : goal.decreases-same_formulas
decreases-same_formulas l = 2 * formulas_size (formulas_of l.left.now)

abbrev pub invariant-same_terms-loop-a : goal.invariant-same_terms-loop-a
invariant-same_terms-loop-a l = Alike (λ ts. terms_size (terms_of ts)) l.left l.right (iter_rest (zip_first l.a-iterator)) (iter_rest (zip_second l.a-iterator))

abbrev pub invariant-same_triggers-loop-a : goal.invariant-same_triggers-loop-a
invariant-same_triggers-loop-a l = Alike (λ ts. triggers_size (triggers_of ts)) l.left l.right (iter_rest (zip_first l.a-iterator)) (iter_rest (zip_second l.a-iterator))

abbrev pub invariant-same_formulas-loop-p : goal.invariant-same_formulas-loop-p
invariant-same_formulas-loop-p l = Alike (λ ps. formulas_size (formulas_of ps)) l.left l.right (iter_rest (zip_first l.p-iterator)) (iter_rest (zip_second l.p-iterator))
