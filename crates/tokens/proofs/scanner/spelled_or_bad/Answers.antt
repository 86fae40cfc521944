use Rattle.tokens.proofs.Rows.{spelled_or_bad, bad_unspelled, bad_once}
use Rattle.tokens.proofs.scanner.spelled_or_bad.Goals as goal

pub returns : goal.returns
returns c = record { either = spelled_or_bad; apart = bad_unspelled; one_offset = bad_once }
