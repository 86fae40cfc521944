use Rattle.item_parser.proofs.SpecDenotedLemmas.{one_spelling}
use Rattle.item_parser.proofs.spec.denoted.one_spelling.Goals as goal

pub returns : goal.returns
returns c = one_spelling
