use Rattle.item_parser.proofs.DenotedLemmas.{one_file}
use Rattle.item_parser.proofs.denoted.one_file.Goals as goal

pub returns : goal.returns
returns c = one_file
