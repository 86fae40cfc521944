use Rattle.fol.proofs.DeciderLaws.{some_interpretation}
use Rattle.fol.proofs.laws.some_interpretation_reads.Goals as goal

pub returns : goal.returns
returns c = some_interpretation
