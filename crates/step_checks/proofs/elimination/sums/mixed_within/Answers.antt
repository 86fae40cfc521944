use Rattle.std.proofs.Common.{rules, ◌≡◌, ◌++◌, ◌∷◌, [], ◌<◌, ◌+◌, ℕ, ℤ, List, length, pos, ◌+ℤ◌, ◌*ℤ◌, FitsSigned, sym, ap, ◌∙◌, subst, arith, below_more}
use Rattle.std.specs.Int.{w128}
use Rattle.std.proofs.lemmas.Int.{to_z-of_z}
use Rattle.linear_arith.specs.Combination.{number}
use Rattle.linear_arith.specs.Elimination.{MixFits}
use Rattle.linear_arith.proofs.PackedLemmas.{mixed_next}
use Rattle.step_checks.proofs.elimination.sums.mixed_within.Goals as goal

pub loop-k-preserved : goal.loop-k-preserved
loop-k-preserved c =
    let inv = c.loop-k.invariant in
    let first = c.args.first.now in
    let second = c.args.second.now in
    let x = c.args.weights.first in
    let y = c.args.weights.second in
    let k = c.loop-k.k in
    let old = c.loop-k.numbers.items in
    let fa : FitsSigned w128 c.number_at.result = search rules in
    let fb : FitsSigned w128 c.number_at-in-loop-k.result = search rules in
    let fn : FitsSigned w128 c.in-Some.number = search rules in
    let known = simp to_z-of_z at c.in-Some.ensures in
    let a : c.number_at.result ≡ number k first = c.number_at.ensures in
    let b : c.number_at-in-loop-k.result ≡ number k second = c.number_at-in-loop-k.ensures in
    let here : c.in-Some.number ≡ (pos x *ℤ number k first) +ℤ (pos y *ℤ number k second) = known.1 ∙ ap (λ (z : ℤ). (pos x *ℤ z) +ℤ (pos y *ℤ c.number_at-in-loop-k.result)) a ∙ ap (λ (z : ℤ). (pos x *ℤ number k first) +ℤ (pos y *ℤ z)) b in
    let fits : MixFits x y (number k first) (number k second) = subst (λ (z : ℤ). MixFits x y (number k first) z) b (subst (λ (z : ℤ). MixFits x y z c.number_at-in-loop-k.result) a known.0) in
    let pushed : c.push.new.self.items ≡ old ++ c.in-Some.number ∷ [] = simp to_z-of_z at c.in_ok-push.ensures.items in
    let e : length old ≡ k = omega arith in
    let len = c.in_ok-push.ensures.len in
    record {
      len = omega (arith, len);
      made = subst (λ (xs : List ℤ). (j : ℕ) → j < k + 1 → number j xs ≡ (pos x *ℤ number j first) +ℤ (pos y *ℤ number j second)) (sym pushed) (mixed_next (pos x) (pos y) first second old k c.in-Some.number e inv.made here);
      within = below_more (λ (j : ℕ). MixFits x y (number j first) (number j second)) k inv.within fits;
    }

pub returns-in_default-clause-none : goal.returns-in_default-clause-none
returns-in_default-clause-none c = λ w.
    let x = c.args.weights.first in
    let y = c.args.weights.second in
    let k = c.loop-k.k in
    let fa : FitsSigned w128 c.number_at.result = search rules in
    let fb : FitsSigned w128 c.number_at-in-loop-k.result = search rules in
    let gone = simp to_z-of_z at c.in_default.ensures in
    let l : k < length c.args.first.now = omega arith in
    gone (subst (λ (z : ℤ). MixFits x y z c.number_at-in-loop-k.result) (sym c.number_at.ensures) (subst (λ (z : ℤ). MixFits x y (number k c.args.first.now) z) (sym c.number_at-in-loop-k.ensures) (w.within k l)))
