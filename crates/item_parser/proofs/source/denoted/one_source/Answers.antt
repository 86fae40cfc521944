use Rattle.item_parser.proofs.SourceLemmas.{one_source}
use Rattle.item_parser.proofs.source.denoted.one_source.Goals as goal

pub returns : goal.returns
returns c = one_source
