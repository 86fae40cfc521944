use Rattle.std.proofs.Common.{◌≡◌, ℕ, ◌+◌, ◌*◌, pos, neg_ℤ, ◌*ℤ◌, rules, refl, ap, ◌∙◌, subst}
use Rattle.std.specs.Prelude.{FitsSigned, unsigned_abs, MatchBool}
use Rattle.std.specs.Int.{w128}
use Rattle.std.proofs.lemmas.Int.{to_z-of_z}
use Rattle.step_checks.proofs.RestLemmas.{positive_is, first_grows, second_grows}
use Rattle.step_checks.proofs.met_rows.rest.without.Goals as goal
use Rattle.step_checks.proofs.met_rows.rest.without.Goals.{After-differ_in_sign}

-- the denominator, and the product of the absolute values of the coefficient and the numerator
abbrev n : After-differ_in_sign → ℕ
n c = unsigned_abs c.args.value.denominator

abbrev m : After-differ_in_sign → ℕ
m c = unsigned_abs c.args.coefficient * unsigned_abs c.args.value.numerator

size : (c : After-differ_in_sign) → c.unsigned_abs-denominator.result ≡ n c
size c = let f : FitsSigned w128 c.args.value.denominator = search rules in simp to_z-of_z at c.unsigned_abs-denominator.ensures.value

moved : (c : After-differ_in_sign) → c.in_ok-moved.moved ≡ c.args.rest.scale * m c
moved c =
    let f : FitsSigned w128 c.args.coefficient = search rules in
    let g : FitsSigned w128 c.args.value.numerator = search rules in
    simp to_z-of_z at c.in_ok-moved.ensures

signs : (c : After-differ_in_sign) → MatchBool c.differ_in_sign.result (c.args.coefficient *ℤ c.args.value.numerator ≡ neg_ℤ (pos (m c))) (c.args.coefficient *ℤ c.args.value.numerator ≡ pos (m c))
signs c =
    let f : FitsSigned w128 c.args.coefficient = search rules in
    let g : FitsSigned w128 c.args.value.numerator = search rules in
    simp to_z-of_z at c.differ_in_sign.ensures

scaled : (c : After-differ_in_sign) → c.in_ok-scale.scale ≡ c.args.rest.scale * n c
scaled c = c.in_ok-scale.ensures ∙ ap (λ (k : ℕ). c.args.rest.scale * k) (size c)

above : (c : After-differ_in_sign) → c.in_ok-above.above ≡ c.args.rest.above * n c
above c = c.in_ok-above.ensures ∙ ap (λ (k : ℕ). c.args.rest.above * k) (size c)

below : (c : After-differ_in_sign) → c.in_ok-below.below ≡ c.args.rest.below * n c
below c = c.in_ok-below.ensures ∙ ap (λ (k : ℕ). c.args.rest.below * k) (size c)

pub returns-then-differ_in_sign : goal.returns-then-differ_in_sign
returns-then-differ_in_sign c =
    let before = (goal.at.returns-then-differ_in_sign c).After-differ_in_sign in
    let rest = c.args.rest in
    let product = subst (λ r. MatchBool r (c.args.coefficient *ℤ c.args.value.numerator ≡ neg_ℤ (pos (m before))) (c.args.coefficient *ℤ c.args.value.numerator ≡ pos (m before))) c.if-differ_in_sign.true (signs before) in
    let up : c.in_ok-above-2.above ≡ rest.above * n before + rest.scale * m before = rw (c.in_ok-above-2.ensures, above before, moved before) refl in
    record {
      left = refl;
      scale = scaled before;
      bound = rw (up, below before) (first_grows rest.above rest.below rest.scale (m before) (n before) c.args.value.denominator c.args.coefficient c.args.value.numerator (positive_is c.args.value.denominator c.requires.positive) product);
    }

pub returns : goal.returns
returns c =
    let before = (goal.at.returns c).After-differ_in_sign in
    let rest = c.args.rest in
    let product = subst (λ r. MatchBool r (c.args.coefficient *ℤ c.args.value.numerator ≡ neg_ℤ (pos (m before))) (c.args.coefficient *ℤ c.args.value.numerator ≡ pos (m before))) c.if-differ_in_sign.false (signs before) in
    let up : c.in_ok-below-2.below ≡ rest.below * n before + rest.scale * m before = rw (c.in_ok-below-2.ensures, below before, moved before) refl in
    record {
      left = refl;
      scale = scaled before;
      bound = rw (above before, up) (second_grows rest.above rest.below rest.scale (m before) (n before) c.args.value.denominator c.args.coefficient c.args.value.numerator (positive_is c.args.value.denominator c.requires.positive) product);
    }
