use Rattle.std.proofs.lemmas.Result.{IfOk-weaker}
use Rattle.body_types.proofs.Steps.{read_whole, read_stopped, clash_untypable}
use Rattle.body_types.proofs.barred_uses.known.from_walk.Goals as goal

pub from_slots-requires : goal.from_slots-requires
from_slots-requires c = (read_whole c.requires.0 c.args.walk c.in-Whole.is c.requires.1).knows.fits

pub from_slots-requires-in-Stopped : goal.from_slots-requires-in-Stopped
from_slots-requires-in-Stopped c = (read_stopped c.requires.0 c.args.walk c.in-Stopped.is c.requires.1).knows.fits

pub returns-in-Whole : goal.returns-in-Whole
returns-in-Whole c = IfOk-weaker c.from_slots.result _ _ (λ found h s is. h s (read_whole s c.args.walk c.in-Whole.is is)) c.from_slots.ensures

pub returns-in-Stopped : goal.returns-in-Stopped
returns-in-Stopped c = IfOk-weaker c.from_slots-in-Stopped.result _ _ (λ found h s is. h s (read_stopped s c.args.walk c.in-Stopped.is is)) c.from_slots-in-Stopped.ensures

pub returns : goal.returns
returns c s is = clash_untypable s c.args.walk c.in-Clash.is is
