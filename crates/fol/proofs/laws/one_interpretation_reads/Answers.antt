use Rattle.fol.proofs.DeciderLaws.{one_interpretation}
use Rattle.fol.proofs.laws.one_interpretation_reads.Goals as goal

pub returns : goal.returns
returns c = one_interpretation
