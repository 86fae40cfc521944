use Rattle.std.proofs.Common.{◌≡◌, true, false, pos, ◌*ℤ◌, ◌≤ℤ◌, ◌<ℤ◌, FitsSigned}
use Rattle.std.specs.Prelude.{unsigned_abs}
use Rattle.std.specs.Bool.{Decides}
use Rattle.std.specs.Int.{w128}
use Rattle.std.proofs.lemmas.Int.{to_z-of_z}
use Rattle.step_checks.proofs.CheckLemmas.{decided_true, decided_false}
use Rattle.step_checks.proofs.ProductLemmas.{negative_of, not_negative_of, at_most_above, at_most_below, at_most_mixed, not_at_most_mixed}
use Rattle.step_checks.proofs.elimination.bounds.is_product_at_most.Goals as goal

pub returns-in-true-true : goal.returns-in-true-true
returns-in-true-true c =
    let a = c.args.a in
    let b = c.args.b in
    let k = c.args.c in
    let d = c.args.d in
    let fa : FitsSigned w128 a = c.ranges.a in
    let fb : FitsSigned w128 b = c.ranges.b in
    let fk : FitsSigned w128 k = c.ranges.c in
    let fd : FitsSigned w128 d = c.ranges.d in
    let left : Decides true ((a *ℤ b) <ℤ pos 0) = simp to_z-of_z at (c.in-true-true.ensures) in
    let right : Decides true ((k *ℤ d) <ℤ pos 0) = simp to_z-of_z at (c.in-true-true.ensures') in
    let sa : c.unsigned_abs-a_size.result ≡ unsigned_abs a = simp to_z-of_z at c.unsigned_abs-a_size.ensures.value in
    let sb : c.unsigned_abs-b_size.result ≡ unsigned_abs b = simp to_z-of_z at c.unsigned_abs-b_size.ensures.value in
    let sk : c.unsigned_abs-c_size.result ≡ unsigned_abs k = simp to_z-of_z at c.unsigned_abs-c_size.ensures.value in
    let sd : c.unsigned_abs-d_size.result ≡ unsigned_abs d = simp to_z-of_z at c.unsigned_abs-d_size.ensures.value in
    at_most_below a b k d c.unsigned_abs-a_size.result c.unsigned_abs-b_size.result c.unsigned_abs-c_size.result c.unsigned_abs-d_size.result c.is_product_less.result sa sb sk sd (negative_of (a *ℤ b) left) (negative_of (k *ℤ d) right) c.is_product_less.ensures

pub returns-in-true-false : goal.returns-in-true-false
returns-in-true-false c =
    let a = c.args.a in
    let b = c.args.b in
    let k = c.args.c in
    let d = c.args.d in
    let fa : FitsSigned w128 a = c.ranges.a in
    let fb : FitsSigned w128 b = c.ranges.b in
    let fk : FitsSigned w128 k = c.ranges.c in
    let fd : FitsSigned w128 d = c.ranges.d in
    let left : Decides true ((a *ℤ b) <ℤ pos 0) = simp to_z-of_z at (c.in-true-false.ensures) in
    let right : Decides false ((k *ℤ d) <ℤ pos 0) = simp to_z-of_z at (c.in-true-false.ensures') in
    decided_true ((a *ℤ b) ≤ℤ (k *ℤ d)) (at_most_mixed (a *ℤ b) (k *ℤ d) (negative_of (a *ℤ b) left) (not_negative_of (k *ℤ d) right))

pub returns-in-false-true : goal.returns-in-false-true
returns-in-false-true c =
    let a = c.args.a in
    let b = c.args.b in
    let k = c.args.c in
    let d = c.args.d in
    let fa : FitsSigned w128 a = c.ranges.a in
    let fb : FitsSigned w128 b = c.ranges.b in
    let fk : FitsSigned w128 k = c.ranges.c in
    let fd : FitsSigned w128 d = c.ranges.d in
    let left : Decides false ((a *ℤ b) <ℤ pos 0) = simp to_z-of_z at (c.in-false-true.ensures) in
    let right : Decides true ((k *ℤ d) <ℤ pos 0) = simp to_z-of_z at (c.in-false-true.ensures') in
    decided_false ((a *ℤ b) ≤ℤ (k *ℤ d)) (not_at_most_mixed (a *ℤ b) (k *ℤ d) (not_negative_of (a *ℤ b) left) (negative_of (k *ℤ d) right))

pub returns-in-false-false : goal.returns-in-false-false
returns-in-false-false c =
    let a = c.args.a in
    let b = c.args.b in
    let k = c.args.c in
    let d = c.args.d in
    let fa : FitsSigned w128 a = c.ranges.a in
    let fb : FitsSigned w128 b = c.ranges.b in
    let fk : FitsSigned w128 k = c.ranges.c in
    let fd : FitsSigned w128 d = c.ranges.d in
    let left : Decides false ((a *ℤ b) <ℤ pos 0) = simp to_z-of_z at (c.in-false-false.ensures) in
    let right : Decides false ((k *ℤ d) <ℤ pos 0) = simp to_z-of_z at (c.in-false-false.ensures') in
    let sa : c.unsigned_abs-a_size.result ≡ unsigned_abs a = simp to_z-of_z at c.unsigned_abs-a_size.ensures.value in
    let sb : c.unsigned_abs-b_size.result ≡ unsigned_abs b = simp to_z-of_z at c.unsigned_abs-b_size.ensures.value in
    let sk : c.unsigned_abs-c_size.result ≡ unsigned_abs k = simp to_z-of_z at c.unsigned_abs-c_size.ensures.value in
    let sd : c.unsigned_abs-d_size.result ≡ unsigned_abs d = simp to_z-of_z at c.unsigned_abs-d_size.ensures.value in
    at_most_above a b k d c.unsigned_abs-a_size.result c.unsigned_abs-b_size.result c.unsigned_abs-c_size.result c.unsigned_abs-d_size.result c.is_product_less-in-false-false.result sa sb sk sd (not_negative_of (a *ℤ b) left) (not_negative_of (k *ℤ d) right) c.is_product_less-in-false-false.ensures
