use Rattle.fol.proofs.DeciderLaws.{one_test}
use Rattle.fol.proofs.laws.one_test_answers_right.Goals as goal

pub returns : goal.returns
returns c = one_test
