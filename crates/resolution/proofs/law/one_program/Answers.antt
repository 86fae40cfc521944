use Rattle.resolution.proofs.OneProgram.{one_program}
use Rattle.resolution.proofs.law.one_program.Goals as goal

pub returns : goal.returns
returns c = one_program
