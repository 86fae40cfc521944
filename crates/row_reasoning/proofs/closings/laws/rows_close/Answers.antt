use Rattle.row_reasoning.proofs.CloseLemmas.{closes}
use Rattle.row_reasoning.proofs.closings.laws.rows_close.Goals as goal

pub returns : goal.returns
returns c = λ class classes chosen ps qs rows origins ms cited are from contradiction are_cited. closes class classes chosen are ps qs rows origins from ms contradiction cited are_cited
