use Rattle.body_types.proofs.Choosing.{none_untypable, some_typable}
use Rattle.body_types.proofs.code.typable.from_slots.Goals as goal

pub returns-in-None : goal.returns-in-None
returns-in-None c s is = none_untypable s c.args.variables c.args.slots.items c.deref.result.now c.args.progress _ c.deref.ensures.value c.in-None.is c.in_ok-with_defaults.ensures is

pub returns : goal.returns
returns c s is = some_typable s c.args.slots.items c.deref.result.now _ (record { variables = c.args.variables; defaulted = c.in-Some.defaulted; progress = c.args.progress }) c.deref.ensures.value c.in-Some.is c.in_ok-with_defaults.ensures is
