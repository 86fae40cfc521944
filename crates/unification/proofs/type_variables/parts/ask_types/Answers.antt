use Rattle.std.proofs.Common.{◌≡◌, ◌+◌, ◌<◌, ℕ, arith, subst, length, get_or, ◌∙◌, ap}
use Rattle.std.proofs.lemmas.List.{get_or_default}
use Rattle.std.proofs.lemmas.List.Sums.{sum_by_more}
use Rattle.base.specs.TypeData.{TypeData, BoolType, type_size}
use Rattle.unification.specs.Slots.{list_at}
use Rattle.unification.specs.Asks.{Adds}
use Rattle.unification.proofs.Asking.{adds_more, adds_said, list_is, list_each, some_weight}
use Rattle.unification.proofs.type_variables.parts.ask_types.Goals as goal

pub loop-i-preserved : goal.loop-i-preserved
loop-i-preserved c =
    let lt : c.loop-i.i < length c.args.types.now = omega (arith, c.loop-i-test.true) in
    let read : c.index-types-i.result ≡ get_or c.args.types.now c.loop-i.i BoolType = c.index-types-i.is ∙ get_or_default c.args.types.now c.loop-i.i c.index-types-i.result BoolType lt in
    record {
      adds = adds_more c.args.asks.now.items c.loop-i.asks.items c.ask_type.new.asks.items (λ t j. t (c.args.first + j) ≡ get_or c.args.types.now j BoolType) c.loop-i.i
          (subst (λ (x : TypeData). Adds c.loop-i.asks.items (λ t. t (c.args.first + c.loop-i.i) ≡ x) c.ask_type.new.asks.items) read c.in_ok-ask_type.ensures.adds) c.loop-i.invariant.adds;
      within = c.in_ok-ask_type.ensures.within;
      less = omega (arith, c.in_ok-ask_type.ensures.work, c.loop-i.invariant.less, sum_by_more type_size c.args.types.now c.loop-i.i BoolType lt, ap type_size read);
    }

pub returns-clause-adds : goal.returns-clause-adds
returns-clause-adds c = adds_said c.args.asks.now.items c.loop-i.asks.items
    (λ t. (j : ℕ) → j < c.loop-i.i → t (c.args.first + j) ≡ get_or c.args.types.now j BoolType)
    (λ t. list_at t c.args.first (length c.args.types.now) ≡ c.args.types.now)
    (λ t e j lt. list_each t c.args.first c.args.types.now e j (omega (arith, lt)))
    (λ t h. list_is t c.args.first c.args.types.now (λ j lt. h j (omega (arith, lt))))
    c.loop-i.invariant.adds

pub returns-clause-work : goal.returns-clause-work
returns-clause-work c = omega (arith, c.loop-i.invariant.less, some_weight c.args.types.now c.loop-i.i)
