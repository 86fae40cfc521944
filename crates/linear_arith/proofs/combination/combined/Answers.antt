use Rattle.std.proofs.Common.{rules, ◌≡◌, ◌<◌, ◌≤◌, ◌+◌, ◌-◌, ℕ, ℤ, List, length, pos, get_or, replicate, FitsSigned, refl, ap, ◌∙◌, subst, arith}
use Rattle.std.specs.Int.{w128}
use Rattle.std.proofs.lemmas.Int.{to_z-of_z}
use Rattle.linear_arith.specs.Inequality.{Inequality}
use Rattle.linear_arith.specs.Combination.{number, IsAddedTo, AddedLeaves, CombinesWithin, combination}
use Rattle.linear_arith.specs.Packed.{ahead}
use Rattle.linear_arith.proofs.PackedLemmas.{zero_next, skipped}
use Rattle.linear_arith.proofs.CombinedLemmas.{HasCombined, combined_begin, combined_past, combined_step, combined_leaves, bound_leaves, combined_end}
use Rattle.linear_arith.proofs.combination.combined.Goals as goal

pub loop-walk-init : goal.loop-walk-init
loop-walk-init c =
    let ms = c.args.multipliers.now in
    let totals = c.in_ok-totals.totals.items in
    let zeros : totals ≡ replicate c.args.width (pos 0) = search rules in
    let same : (k : ℕ) → k ≡ k + 0 = λ k. omega arith in
    record {
      below = omega arith;
      rest = λ k. c.walk-walk.ensures k ∙ ap (λ (j : ℕ). number j ms) (same k);
      made = combined_begin c.args.width ms c.args.rows.now totals zeros;
    }

pub loop-walk-preserved : goal.loop-walk-preserved
loop-walk-preserved c =
    let ms = c.args.multipliers.now in
    let rows = c.args.rows.now in
    let width = c.args.width in
    let i = c.loop-walk.i in
    let inv = c.loop-walk.invariant in
    let walk = c.loop-walk.walk in
    let past = c.skip.new.self in
    let next = c.next-multiplier.new.self in
    let m = c.next-multiplier.result in
    let row = c.index-rows-i.result in
    let old = c.loop-walk.totals.items in
    let more = c.add_row.new.totals.items in
    let fm : FitsSigned w128 m = search rules in
    let fb : FitsSigned w128 c.bound.result = search rules in
    let fs : FitsSigned w128 c.in-Some.more = search rules in
    let l : i + walk.zeros < length rows = omega arith in
    let skipped_to : (k : ℕ) → number k (ahead past.zeros past.rest.now) ≡ number (k + (i + walk.zeros)) ms = skipped ms walk.zeros past.zeros walk.rest.now past.rest.now i walk.zeros (i + walk.zeros) refl inv.rest c.skip.ensures in
    let none : 0 + (i + walk.zeros) ≡ i + walk.zeros = omega arith in
    let at : m ≡ get_or ms (i + walk.zeros) (pos 0) = c.next-multiplier.ensures.first ∙ skipped_to 0 ∙ ap (λ (j : ℕ). number j ms) none in
    let before = combined_past width ms rows i walk.zeros old _ c.requires (omega (arith, l)) (λ k b. zero_next ms walk.zeros walk.rest.now i inv.rest k b) inv.made in
    let added : (u : ℕ) → u < length old → IsAddedTo m u row (number u old) (number u more) = simp to_z-of_z at (c.add_row.ensures.added c.if-not-add_row.false) in
    let e0 = simp to_z-of_z at c.in-Some.ensures in
    let e = simp c.bound.ensures at e0 in
    rw (to_z-of_z w128 c.in-Some.more fs) record {
      below = omega (arith, l);
      rest = skipped ms past.zeros next.zeros past.rest.now next.rest.now (i + walk.zeros) 1 (i + walk.zeros + 1) refl skipped_to c.next-multiplier.ensures.rest;
      made = combined_step width ms rows (i + walk.zeros) row m old more _ c.in-Some.more c.requires l c.index-rows-i.is at c.add_row.ensures.len added e.0 e.1 before;
    }

combined_at : (width : ℕ) (ms : List ℤ) (rows : List Inequality) (i : ℕ) (totals : List ℤ) (bound : ℤ) → length ms ≡ length rows → i ≡ length rows → HasCombined width ms rows i totals bound → CombinesWithin width ms rows × (record { coefficients = totals; bound = bound } ≡ combination width ms rows)
combined_at width ms rows i totals bound e last before = combined_end width ms rows totals bound e (subst (λ (j : ℕ). HasCombined width ms rows j totals bound) last before)

pub returns : goal.returns
returns c =
    let ms = c.args.multipliers.now in
    let rows = c.args.rows.now in
    let i = c.loop-walk.i in
    let inv = c.loop-walk.invariant in
    let walk = c.loop-walk.walk in
    let totals = c.loop-walk.totals.items in
    let below : i ≤ length rows = inv.below in
    let past : length rows - i ≤ walk.zeros = c.loop-walk-test.false in
    let last : i + (length rows - i) ≡ length rows = omega (arith, below) in
    let before = combined_past c.args.width ms rows i (length rows - i) totals _ c.requires (omega (arith, last)) (λ k b. zero_next ms walk.zeros walk.rest.now i inv.rest k (omega (arith, b, past))) inv.made in
    let ended = combined_at c.args.width ms rows (i + (length rows - i)) totals _ c.requires last before in
    (ended.0, c.new.ensures ∙ ended.1)

pub returns-then-not-add_row : goal.returns-then-not-add_row
returns-then-not-add_row c =
    let ms = c.args.multipliers.now in
    let rows = c.args.rows.now in
    let i = c.loop-walk.i in
    let inv = c.loop-walk.invariant in
    let walk = c.loop-walk.walk in
    let past = c.skip.new.self in
    let m = c.next-multiplier.result in
    let row = c.index-rows-i.result in
    let old = c.loop-walk.totals.items in
    let fm : FitsSigned w128 m = search rules in
    let l : i + walk.zeros < length rows = omega arith in
    let skipped_to : (k : ℕ) → number k (ahead past.zeros past.rest.now) ≡ number (k + (i + walk.zeros)) ms = skipped ms walk.zeros past.zeros walk.rest.now past.rest.now i walk.zeros (i + walk.zeros) refl inv.rest c.skip.ensures in
    let none : 0 + (i + walk.zeros) ≡ i + walk.zeros = omega arith in
    let at : m ≡ get_or ms (i + walk.zeros) (pos 0) = c.next-multiplier.ensures.first ∙ skipped_to 0 ∙ ap (λ (j : ℕ). number j ms) none in
    let before = combined_past c.args.width ms rows i walk.zeros old _ c.requires (omega (arith, l)) (λ k b. zero_next ms walk.zeros walk.rest.now i inv.rest k b) inv.made in
    let leaves : AddedLeaves m row old = simp to_z-of_z at (c.add_row.ensures.leaves c.if-not-add_row.true) in
    combined_leaves c.args.width ms rows (i + walk.zeros) row m old _ c.requires l c.index-rows-i.is at leaves before

pub returns-in_default : goal.returns-in_default
returns-in_default c =
    let ms = c.args.multipliers.now in
    let rows = c.args.rows.now in
    let i = c.loop-walk.i in
    let inv = c.loop-walk.invariant in
    let walk = c.loop-walk.walk in
    let past = c.skip.new.self in
    let m = c.next-multiplier.result in
    let row = c.index-rows-i.result in
    let old = c.loop-walk.totals.items in
    let fm : FitsSigned w128 m = search rules in
    let fb : FitsSigned w128 c.bound.result = search rules in
    let l : i + walk.zeros < length rows = omega arith in
    let skipped_to : (k : ℕ) → number k (ahead past.zeros past.rest.now) ≡ number (k + (i + walk.zeros)) ms = skipped ms walk.zeros past.zeros walk.rest.now past.rest.now i walk.zeros (i + walk.zeros) refl inv.rest c.skip.ensures in
    let none : 0 + (i + walk.zeros) ≡ i + walk.zeros = omega arith in
    let at : m ≡ get_or ms (i + walk.zeros) (pos 0) = c.next-multiplier.ensures.first ∙ skipped_to 0 ∙ ap (λ (j : ℕ). number j ms) none in
    let before = combined_past c.args.width ms rows i walk.zeros old _ c.requires (omega (arith, l)) (λ k b. zero_next ms walk.zeros walk.rest.now i inv.rest k b) inv.made in
    let gone0 = simp to_z-of_z at c.in_default.ensures in
    let gone = simp c.bound.ensures at gone0 in
    bound_leaves c.args.width ms rows (i + walk.zeros) row m old _ c.requires l c.index-rows-i.is at gone before
