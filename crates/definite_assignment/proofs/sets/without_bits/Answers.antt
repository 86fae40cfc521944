use Rattle.definite_assignment.proofs.SetLaws.{has_without}
use Rattle.definite_assignment.proofs.sets.without_bits.Goals as goal

pub returns : goal.returns
returns c = λ i h. has_without c.args.locals (record { bits = c.args.taken }) i c.ranges.taken.fits h
