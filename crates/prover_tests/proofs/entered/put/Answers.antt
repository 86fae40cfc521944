use Rattle.prover_tests.proofs.PresentLemmas.{term_part}
use Rattle.prover_tests.proofs.entered.put.Goals as goal

pub put_in-requires-clause-term : goal.put_in-requires-clause-term
put_in-requires-clause-term g c = term_part c.intern_term.new.pool c.intern_term.result c.expect-term.result c.expect-term.ensures c.args.term.now c.intern_term.ensures.is
