use Rattle.std.proofs.Common.{◌≡◌, ◌<◌, ◌≤◌, ℕ, ap, subst, arith}
use Rattle.std.specs.Prelude.{min}
use Rattle.tokens.specs.Weight.{greatest_weight}
use Rattle.front_end.specs.Texts.{IsLight}
use Rattle.front_end.specs.declared.fault.FileFault.TheVariants.{Passes}
use Rattle.front_end.specs.declared.fault.FileLimit.TheVariants.{Nesting}
use Rattle.front_end.proofs.NumberedLemmas.{each_taken, first_at}
use Rattle.front_end.proofs.texts.check_nesting.Goals as goal

heavy : (w g : ℕ) → w ≡ min 201 g → 201 ≤ w → 200 < g
heavy w g e h = omega (arith, e, h)

light : (w g : ℕ) → w ≡ min 201 g → w < 201 → g ≤ 200
light w g e h = omega (arith, e, h)

pub returns-then-weight-ge-WEIGHT_LIMIT : goal.returns-then-weight-ge-WEIGHT_LIMIT
returns-then-weight-ge-WEIGHT_LIMIT c =
    first_at c.args.texts.now c.loop-number.number c.index-texts-number.result c.loop-number-test.true c.loop-number.invariant
    (record { fault_is = ap (Passes Nesting) c.from.ensures; heavy = subst (λ tokens. 200 < greatest_weight tokens) c.index-texts-number.is (heavy c.weight.result _ c.weight.ensures c.if-weight-ge-WEIGHT_LIMIT.true) })

pub loop-number-preserved : goal.loop-number-preserved
loop-number-preserved c =
    each_taken IsLight c.args.texts.now c.loop-number.number c.index-texts-number.result c.loop-number-test.true c.loop-number.invariant
    (subst (IsLight c.loop-number.number) c.index-texts-number.is (light c.weight.result _ c.weight.ensures c.if-weight-ge-WEIGHT_LIMIT.false))
