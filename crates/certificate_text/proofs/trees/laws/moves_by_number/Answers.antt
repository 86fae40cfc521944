use Rattle.certificate_text.proofs.TreesMoveLemmas.{text_moves}
use Rattle.certificate_text.proofs.trees.laws.moves_by_number.Goals as goal

pub returns : goal.returns
returns c = text_moves
