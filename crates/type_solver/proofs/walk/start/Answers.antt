use Rattle.std.proofs.Common.{refl}
use Rattle.type_solver.specs.declared.walk.Reading.TheVariants.{Whole}
use Rattle.type_solver.proofs.Reading.{start_walk}
use Rattle.type_solver.proofs.walk.start.Goals as goal

pub returns : goal.returns
returns c w = start_walk w c.args.slots.now (record { count = 0; reading = Whole }) refl refl c.requires.fits c.requires.start
