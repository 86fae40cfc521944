use Rattle.item_parser.proofs.SpecDenotedLemmas.{one_spec_expression}
use Rattle.item_parser.proofs.spec.denoted.one_spec_expression.Goals as goal

pub returns : goal.returns
returns c = one_spec_expression
