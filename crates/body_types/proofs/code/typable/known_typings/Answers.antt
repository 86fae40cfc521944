use Rattle.std.proofs.lemmas.Result.{IfOk-weaker}
use Rattle.body_types.proofs.Choosing.{known_whole, known_stopped, clash_untypable}
use Rattle.body_types.proofs.code.typable.known_typings.Goals as goal

pub from_slots-requires-clause-fits : goal.from_slots-requires-clause-fits
from_slots-requires-clause-fits c = (known_whole c.requires.known.0 c.args.walk c.in-Whole.is c.requires.known.1).knows.fits

pub from_slots-requires-in-Stopped-clause-fits : goal.from_slots-requires-in-Stopped-clause-fits
from_slots-requires-in-Stopped-clause-fits c = (known_stopped c.requires.known.0 c.args.walk c.in-Stopped.is c.requires.known.1).knows.fits

pub returns-in-Whole : goal.returns-in-Whole
returns-in-Whole c = IfOk-weaker c.from_slots.result _ _ (λ found h s is. h s (known_whole s c.args.walk c.in-Whole.is is)) c.from_slots.ensures

pub returns-in-Stopped : goal.returns-in-Stopped
returns-in-Stopped c = IfOk-weaker c.from_slots-in-Stopped.result _ _ (λ found h s is. h s (known_stopped s c.args.walk c.in-Stopped.is is)) c.from_slots-in-Stopped.ensures

pub returns : goal.returns
returns c s is = clash_untypable s c.args.walk c.in-Clash.is is
