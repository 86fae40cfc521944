use Rattle.std.proofs.Common.{◌≡◌, ℕ, ◌*◌, ◌/◌, ◌%◌, ◌<◌, ◌≤◌, arith, ap, refl, inl, inr}
use Rattle.std.proofs.Math.Nat.{mul-zero, zero-mul}
use Rattle.std.proofs.lemmas.Bool.{ltb-true, lt-ltb, false≢true}
use Rattle.linear_arith.proofs.ListLemmas.{below_or_past}
use Rattle.linear_arith.proofs.ProductLemmas.{less_by_whole, decided_by_rests, positive_product}
use Rattle.linear_arith.proofs.numbers.is_product_less.Goals as goal

pub returns-then-whole-other : goal.returns-then-whole-other
returns-then-whole-other c =
    let l = c.loop-a.left in
    let a = c.loop-a.left_by in
    let r = c.loop-a.right in
    let b = c.loop-a.right_by in
    let same = c.loop-a.invariant.same in
    let up = less_by_whole l a r b (l / a) (r / b) (l % a) (r % b) (omega arith) (omega arith) (omega arith) (omega arith) in
    let down = less_by_whole r b l a (r / b) (l / a) (r % b) (l % a) (omega arith) (omega arith) (omega arith) (omega arith) in
    (λ t. same.0 (up (ltb-true (l / a) (r / b) t)), λ h. lt-ltb (l / a) (r / b) (let k = same.1 h in not_above (l / a) (r / b) (l * b) (a * r) c.if-whole-other.true k (λ lt. let d = down lt in omega (arith, d))))
  where
    not_above : (p q x y : ℕ) → (p ≡ q → ⊥) → x < y → (q < p → y ≤ x) → p < q
    not_above p q x y ne h f = elim (below_or_past p q) [ inl lt ↦ lt | inr le ↦ absurd (let g = f (omega (arith, ne, le)) in omega (arith, g, h)) ]

pub returns-then-right_rest-eq0 : goal.returns-then-right_rest-eq0
returns-then-right_rest-eq0 c =
    let l = c.loop-a.left in
    let a = c.loop-a.left_by in
    let r = c.loop-a.right in
    let b = c.loop-a.right_by in
    let same = c.loop-a.invariant.same in
    let whole : l / a ≡ r / b = omega arith in
    let rests = decided_by_rests l a r b (l / a) (l % a) (r % b) (omega arith) (let e : b * (l / a) ≡ b * (r / b) = ap (λ (n : ℕ). b * n) whole in omega (arith, e)) in
    (λ t. absurd (false≢true t), λ h. absurd (let k = rests.0 (same.1 h) in let z : (r % b) * a ≡ 0 = rw c.if-right_rest-eq0.true (zero-mul a) in omega (arith, k, z)))

pub returns-then-left_rest-eq0 : goal.returns-then-left_rest-eq0
returns-then-left_rest-eq0 c =
    let l = c.loop-a.left in
    let a = c.loop-a.left_by in
    let r = c.loop-a.right in
    let b = c.loop-a.right_by in
    let same = c.loop-a.invariant.same in
    let whole : l / a ≡ r / b = omega arith in
    let e : b * (l / a) ≡ b * (r / b) = ap (λ (n : ℕ). b * n) whole in
    let rests = decided_by_rests l a r b (l / a) (l % a) (r % b) (omega arith) (omega (arith, e)) in
    let z : b * (l % a) ≡ 0 = rw c.if-left_rest-eq0.true (mul-zero b) in
    let left_by : 0 < a = omega arith in
    let rest : 0 < r % b = omega arith in
    let p = positive_product (r % b) a rest left_by in
    (λ t. same.0 (rests.1 (omega (arith, z, p))), λ h. refl)

pub loop-a-preserved : goal.loop-a-preserved
loop-a-preserved c =
    let l = c.loop-a.left in
    let a = c.loop-a.left_by in
    let r = c.loop-a.right in
    let b = c.loop-a.right_by in
    let same = c.loop-a.invariant.same in
    let whole : l / a ≡ r / b = omega arith in
    let e : b * (l / a) ≡ b * (r / b) = ap (λ (n : ℕ). b * n) whole in
    let rests = decided_by_rests l a r b (l / a) (l % a) (r % b) (omega arith) (omega (arith, e)) in
    record {
      left_by = omega arith;
      right_by = omega arith;
      same = (λ h. same.0 (rests.1 h), λ h. rests.0 (same.1 h));
    }
