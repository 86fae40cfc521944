use Rattle.item_parser.proofs.DenotedLemmas.{one_spelling}
use Rattle.item_parser.proofs.denoted.one_spelling.Goals as goal

pub returns : goal.returns
returns c = one_spelling
