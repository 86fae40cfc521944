use Rattle.std.proofs.Common.{◌<◌, ◌+◌, pos, length, get_or, arith, sym, subst, Option}
use Rattle.linear_arith.specs.declared.bounds.Bound.{Bound}
use Rattle.std.proofs.lemmas.Bool.{false≢true}
use Rattle.linear_arith.proofs.ListLemmas.{get_or-any_default}
use Rattle.linear_arith.proofs.BoundLemmas.{IsBestBefore, best_with, best_without}
use Rattle.linear_arith.proofs.bounds.tightest.Goals as goal
use Rattle.linear_arith.proofs.bounds.tightest.Goals.{then-is_on, else-is_on}

pub loop-bound-preserved : goal.loop-bound-preserved
loop-bound-preserved c =
    let side = c.args.side in
    let bounds = c.args.bounds.now in
    let i = c.loop-bound.bound-index in
    let none : Bound = record { coefficient = pos 0; bound = pos 0 } in
    let now : Bound = get_or bounds i none in
    let lt : i < length bounds = omega arith in
    elim c.if-is_on.branch [
      | then-is_on w ↦
          let e = w.tighter.ensures in
          subst (λ (best : Option Bound). IsBestBefore side bounds (i + 1) best) (sym w.best-is)
          (best_with side bounds i c.loop-bound.best now w.tighter.result (λ d. get_or-any_default bounds i d none lt) c.loop-bound.invariant e.one e.on_side e.first e.second)
      | else-is_on w ↦
          subst (λ (best : Option Bound). IsBestBefore side bounds (i + 1) best) (sym w.best-is)
          (best_without side bounds i c.loop-bound.best now (λ d. get_or-any_default bounds i d none lt) c.loop-bound.invariant (λ o. false≢true (w.if-is_on.ensures.1 o)))
    ]
