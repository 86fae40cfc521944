use Rattle.item_parser.proofs.DenotedBlockLemmas.{one_spec_block}
use Rattle.item_parser.proofs.spec.denoted_block.one_spec_block.Goals as goal

pub returns : goal.returns
returns c = one_spec_block
