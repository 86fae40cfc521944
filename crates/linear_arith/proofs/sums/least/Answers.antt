use Rattle.std.proofs.Common.{◌≡◌, ℤ, List, ap, sym, ◌∙◌, subst}
use Rattle.linear_arith.specs.Inequality.{Inequality}
use Rattle.linear_arith.specs.Elimination.{as_row}
use Rattle.linear_arith.specs.Reduction.{IsReduced}
use Rattle.linear_arith.proofs.LeastLemmas.{ok_as, reduced_with_one, reduced_list}
use Rattle.linear_arith.proofs.sums.least.Goals as goal

pub returns-then-has_one : goal.returns-then-has_one
returns-then-has_one c = reduced_with_one c.args.numbers (c.has_one.ensures c.if-has_one.true)

pub returns : goal.returns
returns c =
    let list = c.in_ok-numbers.ensures in
    let row : IsReduced (as_row c.args.numbers) c.in_ok-reduced.field-0 = subst (λ (r : Inequality). IsReduced r c.in_ok-reduced.field-0) (c.new-row.ensures ∙ ap as_row list) c.in_ok-reduced.ensures in
    ok_as c.of.result (λ ms. ms ≡ c.as_slice.result.now) (λ ms. IsReduced (as_row c.args.numbers) (as_row ms))
    (λ ms is. subst (λ (xs : List ℤ). IsReduced (as_row c.args.numbers) (as_row xs)) (sym (is ∙ c.as_slice.ensures.value ∙ c.into_coefficients-least.ensures)) (reduced_list c.args.numbers c.in_ok-reduced.field-0 row)) c.of.ensures
