use Rattle.row_reasoning.proofs.FitLemmas.{rows_of_fit}
use Rattle.row_reasoning.proofs.values.laws.rows_fit.Goals as goal

pub returns : goal.returns
returns c b class classes rows h = rows_of_fit classes h.stated rows h.are_rows
