use Rattle.std.proofs.Common.{subst}
use Rattle.term_pool.specs.Pools.{IsOneNumber}
use Rattle.term_pool.proofs.OnceLemmas.{one_number}
use Rattle.term_pool.proofs.pool.Pool.one_number.Goals as goal

pub returns : goal.returns
returns c = subst IsOneNumber c.self.view_is (one_number _ c.self.invariant.pool)
