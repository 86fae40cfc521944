use Rattle.tableau.proofs.EntryLemmas.{still_over}
use Rattle.prover_tests.proofs.PresentLemmas.{formula_number, when_ok, above_entered}
use Rattle.prover_tests.proofs.entered.enter.Goals as goal

pub push-requires-clause-over : goal.push-requires-clause-over
push-requires-clause-over g c = still_over c.args.pool.now c.intern_formula.new.pool c.intern_formula.ensures.extends c.args.branch.now c.requires

pub push-requires-clause-formula : goal.push-requires-clause-formula
push-requires-clause-formula g c = formula_number c.intern_formula.new.pool c.intern_formula.result c.expect-number.result c.expect-number.ensures c.args.formula.now c.intern_formula.ensures.is

pub returns-clause-above : goal.returns-clause-above
returns-clause-above g c = λ v h. above_entered c.args.pool.now c.intern_formula.new.pool c.intern_formula.ensures.extends c.args.branch.now c.requires c.push.new.self.entries _ (when_ok _ c.push.result _ c.expect.ensures c.push.ensures.entries) v h
