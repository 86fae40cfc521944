use Rattle.driver.proofs.ValueLemmas.{one_list}
use Rattle.driver.proofs.verify.laws.one_value.Goals as goal

pub returns : goal.returns
returns c = one_list
