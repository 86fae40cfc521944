use Rattle.std.proofs.Common.{◌+◌, List, sym, subst, arith}
use Rattle.unification.specs.declared.type_variables.slots.Sort.TheVariants.{Integer}
use Rattle.unification.specs.declared.type_variables.slots.Slot.{Slot}
use Rattle.unification.proofs.Becoming.{slot_read}
use Rattle.unification.specs.Given.{GivesTo}
use Rattle.unification.proofs.Giving.{gives_one}
use Rattle.unification.proofs.solution.given.with_integers.Goals as goal

pub loop-slot-preserved : goal.loop-slot-preserved
loop-slot-preserved c = subst (λ (xs : List Slot). GivesTo c.args.slots.now xs Integer c.args.integer.now (c.loop-slot.slot-index + 1)) (sym c.in_ok-push.ensures.items)
    (gives_one c.args.slots.now c.loop-slot.given.items Integer c.args.integer.now c.loop-slot.slot-index c.slot-item.result c.with_integer.result (omega (arith, c.loop-slot-test.true))
    (slot_read c.args.slots.now c.loop-slot.slot-index c.slot-item.result (omega (arith, c.loop-slot-test.true)) c.slot-item.is) c.loop-slot.invariant c.with_integer.ensures)
