use Rattle.certificates.proofs.LengthLaws.{is_length}
use Rattle.certificates.proofs.bytes.laws.lengths_of_moves.Goals as goal

pub returns : goal.returns
returns c = is_length
