use Rattle.item_parser.proofs.DenotedBlockLemmas.{one_spelling}
use Rattle.item_parser.proofs.spec.denoted_block.one_spelling.Goals as goal

pub returns : goal.returns
returns c = one_spelling
