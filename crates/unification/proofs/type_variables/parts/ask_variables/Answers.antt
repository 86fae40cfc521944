use Rattle.std.proofs.Common.{◌≡◌, ◌+◌, ◌<◌, ℕ, arith}
use Rattle.unification.specs.Slots.{list_at}
use Rattle.unification.proofs.Asking.{adds_more, adds_said, lists_same, lists_each}
use Rattle.unification.proofs.type_variables.parts.ask_variables.Goals as goal

pub loop-i-preserved : goal.loop-i-preserved
loop-i-preserved c = record {
  adds = adds_more c.args.asks.now.items c.loop-i.asks.items c.ask.new.asks.items (λ t j. t (c.args.first + j) ≡ t (c.args.other + j)) c.loop-i.i c.in_ok-ask.ensures.adds c.loop-i.invariant.adds;
  within = c.in_ok-ask.ensures.within;
  less = omega (arith, c.in_ok-ask.ensures.work, c.loop-i.invariant.less);
}

pub returns-clause-adds : goal.returns-clause-adds
returns-clause-adds c = adds_said c.args.asks.now.items c.loop-i.asks.items
    (λ t. (j : ℕ) → j < c.loop-i.i → t (c.args.first + j) ≡ t (c.args.other + j))
    (λ t. list_at t c.args.first c.args.count ≡ list_at t c.args.other c.args.count)
    (λ t e j lt. lists_each t c.args.first c.args.other c.args.count e j (omega (arith, lt)))
    (λ t h. lists_same t c.args.first c.args.other c.args.count (λ j lt. h j (omega (arith, lt))))
    c.loop-i.invariant.adds
