use Rattle.std.proofs.Common.{rules, ◌≡◌, ◌≤◌, ◌+◌, ◌++◌, ◌∷◌, [], ℕ, ℤ, List, length, pos, replicate, ◌+ℤ◌, ◌*ℤ◌, FitsSigned, refl, sym, ap, ◌∙◌, subst, arith, length-append}
use Rattle.std.specs.Int.{w128}
use Rattle.std.proofs.lemmas.Int.{to_z-of_z}
use Rattle.std.proofs.lemmas.List.{length-replicate}
use Rattle.linear_arith.specs.Combination.{number}
use Rattle.linear_arith.specs.Elimination.{MixFits, IsMix}
use Rattle.linear_arith.specs.Packed.{ahead}
use Rattle.linear_arith.proofs.PackedLemmas.{mixed_past, mixed_next, zero_next, skipped}
use Rattle.linear_arith.proofs.sums.mixed_lists.Goals as goal

pub loop-k-preserved : goal.loop-k-preserved
loop-k-preserved c =
    let inv = c.loop-k.invariant in
    let first = c.args.first.now in
    let second = c.args.second.now in
    let x = pos c.args.weights.first in
    let y = pos c.args.weights.second in
    let k = c.loop-k.k in
    let n = c.min-zeros.result in
    let left = c.loop-k.left in
    let right = c.loop-k.right in
    let numbers = c.loop-k.numbers in
    let a : n ≤ left.zeros = omega arith in
    let b : n ≤ right.zeros = omega arith in
    let after = c.skip.new.self in
    let after' = c.skip-in-loop-k.new.self in
    let fa : FitsSigned w128 c.next.result = search rules in
    let fb : FitsSigned w128 c.next-in-loop-k.result = search rules in
    let zero : 0 + (k + n) ≡ k + n = omega arith in
    let left_at : (j : ℕ) → number j (ahead after.zeros after.rest.now) ≡ number (j + (k + n)) first = skipped first left.zeros after.zeros left.rest.now after.rest.now k n (k + n) refl inv.left c.skip.ensures in
    let right_at : (j : ℕ) → number j (ahead after'.zeros after'.rest.now) ≡ number (j + (k + n)) second = skipped second right.zeros after'.zeros right.rest.now after'.rest.now k n (k + n) refl inv.right c.skip-in-loop-k.ensures in
    let l : c.next.result ≡ number (k + n) first = c.next.ensures.first ∙ left_at 0 ∙ ap (λ (j : ℕ). number j first) zero in
    let r : c.next-in-loop-k.result ≡ number (k + n) second = c.next-in-loop-k.ensures.first ∙ right_at 0 ∙ ap (λ (j : ℕ). number j second) zero in
    let len : length (numbers ++ replicate n (pos 0)) ≡ k + n = length-append numbers (replicate n (pos 0)) ∙ ap (λ (m : ℕ). length numbers + m) (length-replicate n (pos 0)) ∙ ap (λ (m : ℕ). m + n) inv.len in
    let past = mixed_past x y first second numbers k n inv.len inv.made (λ j h. zero_next first left.zeros left.rest.now k inv.left j (omega (arith, a, h))) (λ j h. zero_next second right.zeros right.rest.now k inv.right j (omega (arith, b, h))) in
    let fn : FitsSigned w128 c.in-Some.number = search rules in
    let next = c.next.new.self in
    let next' = c.next-in-loop-k.new.self in
    let known = simp to_z-of_z at c.in-Some.ensures in
    let e = known.some in
    let here : c.in-Some.number ≡ (x *ℤ number (k + n) first) +ℤ (y *ℤ number (k + n) second) = e ∙ ap (λ (z : ℤ). (x *ℤ z) +ℤ (y *ℤ c.next-in-loop-k.result)) l ∙ ap (λ (z : ℤ). (x *ℤ number (k + n) first) +ℤ (y *ℤ z)) r in
    let p = simp to_z-of_z at c.in_ok-push.ensures in
    let pushed : c.push.new.self ≡ (numbers ++ replicate n (pos 0)) ++ c.in-Some.number ∷ [] = p ∙ ap (λ (xs : List ℤ). xs ++ c.in-Some.number ∷ []) c.push_zeros.ensures in
    rw pushed record {
      below = omega arith;
      len = length-append (numbers ++ replicate n (pos 0)) (c.in-Some.number ∷ []) ∙ ap (λ (m : ℕ). m + 1) len;
      made = mixed_next x y first second (numbers ++ replicate n (pos 0)) (k + n) c.in-Some.number len past here;
      left = skipped first after.zeros next.zeros after.rest.now next.rest.now (k + n) 1 (k + n + 1) refl left_at c.next.ensures.rest;
      right = skipped second after'.zeros next'.zeros after'.rest.now next'.rest.now (k + n) 1 (k + n + 1) refl right_at c.next-in-loop-k.ensures.rest;
    }

pub returns-then-k-count-clause-some : goal.returns-then-k-count-clause-some
returns-then-k-count-clause-some c =
    let inv = c.loop-k.invariant in
    let first = c.args.first.now in
    let second = c.args.second.now in
    let x = pos c.args.weights.first in
    let y = pos c.args.weights.second in
    let k = c.loop-k.k in
    let n = c.min-zeros.result in
    let left = c.loop-k.left in
    let right = c.loop-k.right in
    let numbers = c.loop-k.numbers in
    let a : n ≤ left.zeros = omega arith in
    let b : n ≤ right.zeros = omega arith in
    let len : length (numbers ++ replicate n (pos 0)) ≡ k + n = length-append numbers (replicate n (pos 0)) ∙ ap (λ (m : ℕ). length numbers + m) (length-replicate n (pos 0)) ∙ ap (λ (m : ℕ). m + n) inv.len in
    let past = mixed_past x y first second numbers k n inv.len inv.made (λ j h. zero_next first left.zeros left.rest.now k inv.left j (omega (arith, a, h))) (λ j h. zero_next second right.zeros right.rest.now k inv.right j (omega (arith, b, h))) in
    let whole : k + n ≡ length first = omega (arith, c.requires) in
    let mix : IsMix c.args.weights.first c.args.weights.second first second (numbers ++ replicate n (pos 0)) = record { one_each = len ∙ whole; numbers = λ j h. past j (omega (arith, whole, h)) } in
    subst (λ (xs : List ℤ). IsMix c.args.weights.first c.args.weights.second first second xs) (sym c.push_zeros.ensures) mix

pub returns-in_default : goal.returns-in_default
returns-in_default c =
    let inv = c.loop-k.invariant in
    let first = c.args.first.now in
    let second = c.args.second.now in
    let x = pos c.args.weights.first in
    let y = pos c.args.weights.second in
    let k = c.loop-k.k in
    let n = c.min-zeros.result in
    let left = c.loop-k.left in
    let right = c.loop-k.right in
    let numbers = c.loop-k.numbers in
    let a : n ≤ left.zeros = omega arith in
    let b : n ≤ right.zeros = omega arith in
    let after = c.skip.new.self in
    let after' = c.skip-in-loop-k.new.self in
    let fa : FitsSigned w128 c.next.result = search rules in
    let fb : FitsSigned w128 c.next-in-loop-k.result = search rules in
    let zero : 0 + (k + n) ≡ k + n = omega arith in
    let left_at : (j : ℕ) → number j (ahead after.zeros after.rest.now) ≡ number (j + (k + n)) first = skipped first left.zeros after.zeros left.rest.now after.rest.now k n (k + n) refl inv.left c.skip.ensures in
    let right_at : (j : ℕ) → number j (ahead after'.zeros after'.rest.now) ≡ number (j + (k + n)) second = skipped second right.zeros after'.zeros right.rest.now after'.rest.now k n (k + n) refl inv.right c.skip-in-loop-k.ensures in
    let l : c.next.result ≡ number (k + n) first = c.next.ensures.first ∙ left_at 0 ∙ ap (λ (j : ℕ). number j first) zero in
    let r : c.next-in-loop-k.result ≡ number (k + n) second = c.next-in-loop-k.ensures.first ∙ right_at 0 ∙ ap (λ (j : ℕ). number j second) zero in
    let known = simp to_z-of_z at c.in_default.ensures in
    record {
      some = tt;
      none = record {
        position = k + n;
        is_within = omega (arith, c.requires);
        leaves = λ fits. known.none (subst (λ (z : ℤ). MixFits c.args.weights.first c.args.weights.second z c.next-in-loop-k.result) (sym l) (subst (λ (z : ℤ). MixFits c.args.weights.first c.args.weights.second (number (k + n) first) z) (sym r) fits));
      };
    }
