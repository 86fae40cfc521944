use Rattle.row_reasoning.proofs.DifferencesEntryLemmas.{no_pair_compared}
use Rattle.row_reasoning.proofs.differences.entry.compared.Goals as goal

pub returns-in-None : goal.returns-in-None
returns-in-None c = no_pair_compared c.args.pool.now c.args.number c.in-None.ensures
