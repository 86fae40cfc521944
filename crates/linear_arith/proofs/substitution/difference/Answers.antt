use Rattle.std.proofs.Common.{rules, ◌≡◌, ℤ, ◌-ℤ◌, ◌*ℤ◌, FitsSigned, Option, Some, None, ◌∙◌, ap, sym, subst}
use Rattle.std.specs.Int.{w128}
use Rattle.std.specs.Option.{SomeIff}
use Rattle.std.proofs.lemmas.Int.{to_z-of_z}
use Rattle.linear_arith.specs.Fits.{Fits}
use Rattle.linear_arith.specs.Rest.{DifferenceWithin}
use Rattle.linear_arith.proofs.substitution.difference.Goals as goal

-- an equivalent condition under which there is a value
some_if : (r : Option ℤ) (P Q : Type 0) (v w : ℤ) → SomeIff r P v → (P → Q) → (Q → P) → v ≡ w → SomeIff r Q w
some_if None P Q v w h f g e = λ q. h (g q)
some_if (Some x) P Q v w h f g e = (f h.0, h.1 ∙ e)

by_products : (difference : Option ℤ) (left right factor bound weight numerator : ℤ) → Fits (factor *ℤ bound) × (left ≡ factor *ℤ bound) → Fits (weight *ℤ numerator) × (right ≡ weight *ℤ numerator) → SomeIff difference (Fits (left -ℤ right)) (left -ℤ right) → SomeIff difference (DifferenceWithin factor bound weight numerator) ((factor *ℤ bound) -ℤ (weight *ℤ numerator))
by_products d left right factor bound weight numerator l r s =
    let e : left -ℤ right ≡ (factor *ℤ bound) -ℤ (weight *ℤ numerator) = ap (λ (z : ℤ). z -ℤ right) l.1 ∙ ap (λ (z : ℤ). (factor *ℤ bound) -ℤ z) r.1 in
    some_if d _ _ _ _ s
    (λ f. record { left = l.0; right = r.0; difference = subst (λ (z : ℤ). Fits z) e f })
    (λ w. subst (λ (z : ℤ). Fits z) (sym e) w.difference)
    e

pub returns : goal.returns
returns c =
    let fa : FitsSigned w128 c.args.factor = c.ranges.factor in
    let fb : FitsSigned w128 c.args.bound = c.ranges.bound in
    let fw : FitsSigned w128 c.args.weight = c.ranges.weight in
    let fn : FitsSigned w128 c.args.numerator = c.ranges.numerator in
    let fl : FitsSigned w128 c.in-Some.left = search rules in
    let fr : FitsSigned w128 c.in-Some-product.right = search rules in
    let l = simp to_z-of_z at c.in-Some.ensures in
    let r = simp to_z-of_z at c.in-Some-product.ensures in
    let s = simp to_z-of_z at c.difference.ensures in
    by_products _ c.in-Some.left c.in-Some-product.right c.args.factor c.args.bound c.args.weight c.args.numerator l r s
