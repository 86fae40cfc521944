use Rattle.tableau.proofs.EntryLemmas.{still_over}
use Rattle.prover_tests.proofs.PresentLemmas.{formula_number}
use Rattle.prover_tests.proofs.entered.first.Goals as goal

pub first-requires-clause-over : goal.first-requires-clause-over
first-requires-clause-over g c = still_over c.args.pool.now c.intern_formula.new.pool c.intern_formula.ensures.extends c.args.branch.now c.requires

pub first-requires-clause-formula : goal.first-requires-clause-formula
first-requires-clause-formula g c = formula_number c.intern_formula.new.pool c.intern_formula.result c.expect-number.result c.expect-number.ensures c.args.formula.now c.intern_formula.ensures.is

pub returns : goal.returns
returns g c = still_over c.args.pool.now c.intern_formula.new.pool c.intern_formula.ensures.extends c.args.branch.now c.requires
