use Rattle.term_pool.proofs.SizeLemmas.{instance_depth}
use Rattle.term_pool.proofs.pool_substitution.laws.variables_keep_depth.Goals as goal

pub returns : goal.returns
returns c = instance_depth
