use Rattle.std.proofs.Common.{◌≡◌, ℕ, ◌*◌, ap, ◌∙◌}
use Rattle.std.specs.Prelude.{FitsSigned, unsigned_abs}
use Rattle.std.specs.Int.{w128}
use Rattle.std.proofs.lemmas.Int.{to_z-of_z}
use Rattle.step_checks.proofs.RestLemmas.{ok_map, product_of_sizes}
use Rattle.step_checks.proofs.met_rows.rest.product.Goals as goal

pub returns : goal.returns
returns c =
    let f : FitsSigned w128 c.args.first = c.ranges.first in
    let g : FitsSigned w128 c.args.second = c.ranges.second in
    let a = simp to_z-of_z at c.unsigned_abs.ensures.value in
    let b = simp to_z-of_z at c.unsigned_abs-2.ensures.value in
    let once = c.in_ok-once.ensures ∙ ap (λ (n : ℕ). c.args.scale.now * n) a in
    ok_map c.times-2.result
    (λ (made : ℕ) (e : made ≡ c.in_ok-once.once * c.unsigned_abs-2.result). product_of_sizes c.args.scale.now (unsigned_abs c.args.first) (unsigned_abs c.args.second) c.in_ok-once.once made once (e ∙ ap (λ (n : ℕ). c.in_ok-once.once * n) b))
    c.times-2.ensures
