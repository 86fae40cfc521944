use Rattle.tableau.proofs.EntryLemmas.{still_over}
use Rattle.prover_tests.proofs.PresentLemmas.{term_number}
use Rattle.prover_tests.proofs.entered.generation.Goals as goal

pub generation-requires-clause-over : goal.generation-requires-clause-over
generation-requires-clause-over g c = still_over c.args.pool.now c.intern_term.new.pool c.intern_term.ensures.extends c.args.branch.now c.requires

pub generation-requires-clause-term : goal.generation-requires-clause-term
generation-requires-clause-term g c = term_number c.intern_term.new.pool c.intern_term.result c.expect-number.result c.expect-number.ensures _ c.intern_term.ensures.is

pub returns : goal.returns
returns g c = still_over c.args.pool.now c.intern_term.new.pool c.intern_term.ensures.extends c.args.branch.now c.requires
