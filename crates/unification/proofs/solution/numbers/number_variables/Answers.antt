use Rattle.std.proofs.Common.{◌≡◌, ℕ, List, Option, length, sym, ap, subst, ◌∙◌, arith}
use Rattle.std.specs.Prelude.{slice_index}
use Rattle.unification.specs.Slots.{slot_at}
use Rattle.unification.specs.Ranks.{EachLed}
use Rattle.unification.specs.Numbers.{number_at, NumberSays, AreNumbers}
use Rattle.unification.proofs.Pooling.{keeps_then}
use Rattle.unification.proofs.Numbering.{order_parts, number_more}
use Rattle.unification.proofs.solution.numbers.number_variables.Goals as goal

pub variable_number-requires-clause-numbers : goal.variable_number-requires-clause-numbers
variable_number-requires-clause-numbers c = ap length c.deref.ensures.value ∙ c.loop-top.invariant.are.same_length

pub variable_number-requires-clause-parts : goal.variable_number-requires-clause-parts
variable_number-requires-clause-parts c = subst (λ (ns : List (Option ℕ)). EachLed (λ q. NumberSays c.args.slots.now c.loop-top.pool q (number_at ns q)) (slot_at c.args.slots.now (slice_index c.args.order.now c.loop-top.top)))
    (sym c.deref.ensures.value)
    (order_parts c.args.slots.now c.loop-top.pool c.args.order.now c.loop-top.numbers.items c.loop-top.top c.requires.order c.loop-top.invariant.are (omega (arith, c.loop-top-test.true)))

pub loop-top-preserved : goal.loop-top-preserved
loop-top-preserved c = record {
  keeps = keeps_then c.loop-top.invariant.keeps c.in_ok-number.ensures.keeps;
  are = number_more c.args.slots.now c.loop-top.pool c.variable_number.new.pool c.args.order.now c.loop-top.numbers.items c.loop-top.top c.in_ok-number.number c.requires.order
      c.loop-top.invariant.are c.in_ok-number.ensures.keeps (omega (arith, c.loop-top-test.true)) c.in_ok-number.ensures.says;
}

pub returns-clause-are : goal.returns-clause-are
returns-clause-are c =
    let e : c.loop-top.top ≡ length c.args.order.now = omega (arith, c.loop-top-test.false, c.loop-top.auto.top-end) in
    subst (λ (n : ℕ). AreNumbers c.args.slots.now c.loop-top.pool c.args.order.now c.loop-top.numbers.items n) e c.loop-top.invariant.are
