use Rattle.driver.proofs.CauseLemmas.{causes_of_ends}
use Rattle.driver.proofs.top.causes_of_ends.Goals as goal

pub returns : goal.returns
returns c = causes_of_ends c.one_outcome.ensures.either c.one_outcome.ensures.stop
