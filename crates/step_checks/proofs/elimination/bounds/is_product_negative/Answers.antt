use Rattle.std.proofs.Common.{◌<ℤ◌, pos, FitsSigned, arith}
use Rattle.std.specs.Int.{w128}
use Rattle.std.proofs.lemmas.Int.{ints}
use Rattle.step_checks.proofs.ProductLemmas.{negative_first, second_above}
use Rattle.step_checks.proofs.elimination.bounds.is_product_negative.Goals as goal

pub returns-then-a-lt0 : goal.returns-then-a-lt0
returns-then-a-lt0 c =
    let a = c.args.a in
    let b = c.args.b in
    let fa : FitsSigned w128 a = c.ranges.a in
    let fb : FitsSigned w128 b = c.ranges.b in
    let h : a <ℤ pos 0 = omega (arith, ints) in (
      λ t. negative_first a b h (omega (arith, ints, t)),
      λ l. let p = second_above a b h l in grind (arith, ints),
    )
