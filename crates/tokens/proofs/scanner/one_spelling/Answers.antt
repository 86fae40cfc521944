use Rattle.tokens.proofs.Rows.{spelled_once}
use Rattle.tokens.proofs.scanner.one_spelling.Goals as goal

pub returns : goal.returns
returns c = spelled_once
