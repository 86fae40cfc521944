use Rattle.term_pool.proofs.GrowthLemmas.{if_ok, one_made}
use Rattle.term_pool.proofs.interning.one.Goals as goal

pub returns-clause-is : goal.returns-clause-is
returns-clause-is c = if_ok c.insert.result (λ k m. one_made c.args.head c.insert.ensures.extends c.requires m) c.insert.ensures.is
