use Rattle.unification.proofs.WritingBack.{stays_in}
use Rattle.unification.proofs.type_variables.variables.is_of.Goals as goal

pub returns : goal.returns
returns c = stays_in c.args.slots.now.len c.args.slots.now.items c.deref_mut.result.now c.ask_sort.new.slots c.args.slots.now.ok.0 c.ask_sort.auto.slots c.deref_mut.ensures.value c.ask_sort.ensures
