use Rattle.ematching.proofs.HeadLemmas.{index_later}
use Rattle.ematching.proofs.laws.index_stays.Goals as goal

pub returns : goal.returns
returns c = λ ns ms d grown. index_later ns ms grown d
