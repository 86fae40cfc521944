use Rattle.std.proofs.Common.{ℕ, List, get_or, ap, sym, ◌∙◌, subst, arith, below_more}
use Rattle.std.specs.Prelude.{All}
use Rattle.linear_arith.specs.Closure.{HasSum}
use Rattle.linear_arith.specs.declared.elimination.Derived.{Derived}
use Rattle.linear_arith.proofs.ClosureLemmas.{sum_stays}
use Rattle.linear_arith.proofs.GrowthLemmas.{extended_twice, stage_extended, pair_of_stage}
use Rattle.linear_arith.proofs.ListLemmas.{get_or-any_default}
use Rattle.linear_arith.proofs.elimination.Elimination.add_sums.Goals as goal

pub loop-lower-preserved : goal.loop-lower-preserved
loop-lower-preserved c =
    let inv = c.loop-lower.invariant in
    let stage = c.args.stage.now in
    let unknown = stage.unknown in
    let e = c.in_ok-add_sum.ensures in
    let old = c.loop-lower.self in
    let new = c.add_sum.new.self in
    let upper = c.upper-item.result in
    let lower = c.lower-item.result in
    record {
      unknowns = e.unknowns ∙ inv.unknowns;
      under_way = e.ok;
      before = stage_extended c.args.system.now.width c.args.system.now.rows.now stage old new e.ok e.grown inv.before;
      grown = extended_twice c.args.self.now old new inv.grown e.grown;
      sums = λ k d l i b m. sum_stays old.found new.found unknown (get_or stage.upper.items k d).row (get_or stage.lower.items i b).row e.grown.found (inv.sums k d l i b m);
      here = λ k d l. below_more (λ (k : ℕ). (d : Derived) → HasSum new.found unknown upper.row (get_or stage.lower.items k d).row) c.loop-lower.lower-index (λ k l d. sum_stays old.found new.found unknown upper.row (get_or stage.lower.items k d).row e.grown.found (inv.here k d l)) (λ d. subst (λ (m : Derived). HasSum new.found unknown upper.row m.row) (c.lower-item.is ∙ ap (λ (xs : List Derived). get_or xs c.loop-lower.lower-index lower) c.deref-lower-items.ensures.value ∙ get_or-any_default stage.lower.items c.loop-lower.lower-index lower d (omega arith)) e.sum) k l d;
    }

pub loop-upper-preserved : goal.loop-upper-preserved
loop-upper-preserved c =
    let inv = c.loop-lower.invariant in
    let stage = c.args.stage.now in
    let unknown = stage.unknown in
    let new = c.loop-lower.self in
    let upper = c.upper-item.result in
    record {
      unknowns = inv.unknowns;
      under_way = inv.under_way;
      before = inv.before;
      grown = inv.grown;
      sums = λ k d l. below_more (λ (k : ℕ). (d : Derived) → All (λ (lower : Derived). HasSum new.found unknown (get_or stage.upper.items k d).row lower.row) stage.lower.items) c.loop-upper.upper-index (λ k l d. inv.sums k d l) (λ d. subst (λ (m : Derived). All (λ (lower : Derived). HasSum new.found unknown m.row lower.row) stage.lower.items) (c.upper-item.is ∙ ap (λ (xs : List Derived). get_or xs c.loop-upper.upper-index upper) c.deref-upper-items.ensures.value ∙ get_or-any_default stage.upper.items c.loop-upper.upper-index upper d (omega arith)) (λ i b m. inv.here i b (omega (arith, m)))) k l d;
    }

pub add_sum-requires-clause-before : goal.add_sum-requires-clause-before
add_sum-requires-clause-before c =
    let system = c.args.system.now in
    let stage = c.args.stage.now in
    let self = c.loop-lower.self in
    let upper = c.upper-item.result in
    let lower = c.lower-item.result in
    pair_of_stage system.width system.rows.now self.found self.unknowns.items stage upper lower c.loop-lower.invariant.before (c.loop-upper.upper-index, omega arith, sym (c.upper-item.is ∙ ap (λ (xs : List Derived). get_or xs c.loop-upper.upper-index upper) c.deref-upper-items.ensures.value)) (c.loop-lower.lower-index, omega arith, sym (c.lower-item.is ∙ ap (λ (xs : List Derived). get_or xs c.loop-lower.lower-index lower) c.deref-lower-items.ensures.value))
