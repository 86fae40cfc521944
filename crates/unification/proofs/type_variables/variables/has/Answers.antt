use Rattle.std.proofs.Common.{Bool}
use Rattle.std.proofs.lemmas.Result.{IfOk-weaker}
use Rattle.unification.proofs.WritingBack.{stays_in}
use Rattle.unification.proofs.type_variables.variables.has.Goals as goal

pub returns : goal.returns
returns c = IfOk-weaker c.equate.result _ _ (λ (answer : Bool) b. stays_in c.args.slots.now.len c.args.slots.now.items c.deref_mut.result.now c.equate.new.slots c.args.slots.now.ok.0 c.equate.auto.slots c.deref_mut.ensures.value b) c.equate.ensures
