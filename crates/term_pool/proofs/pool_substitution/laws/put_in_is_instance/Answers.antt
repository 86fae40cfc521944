use Rattle.term_pool.proofs.PutLemmas.{put_instance}
use Rattle.term_pool.proofs.pool_substitution.laws.put_in_is_instance.Goals as goal

pub returns : goal.returns
returns c = put_instance
