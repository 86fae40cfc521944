use Rattle.std.proofs.Common.{List, length, get_or, sym, ◌∙◌, ap, arith}
use Rattle.program.specs.declared.declaration.TypedName.{TypedName}
use Rattle.ability_rules.proofs.Signatures.{all_met, more_met, parameter_lacks, result_lacks}
use Rattle.ability_rules.proofs.required.function.is_signature_lacking.Goals as goal

pub loop-parameter-preserved : goal.loop-parameter-preserved
loop-parameter-preserved c =
    let parameter = c.parameter-item.result in
    let k = c.loop-parameter.parameter-index in
    let items = c.as_slice-parameter-items.ensures in
    let size = ap (λ (xs : List TypedName). length xs) items in
    let inside = c.loop-parameter-test.true in
    more_met c.args.program.now c.args.function.now k parameter (omega (arith, size, inside))
    (ap (λ (xs : List TypedName). get_or xs k parameter) (sym items) ∙ sym c.parameter-item.is)
    (sym c.is_constrained-is_met.ensures ∙ c.if-not-is_met.false) c.loop-parameter.invariant

pub returns-then-not-is_met : goal.returns-then-not-is_met
returns-then-not-is_met c =
    let parameter = c.parameter-item.result in
    let k = c.loop-parameter.parameter-index in
    let items = c.as_slice-parameter-items.ensures in
    let size = ap (λ (xs : List TypedName). length xs) items in
    let inside = c.loop-parameter-test.true in
    parameter_lacks c.args.program.now c.args.function.now k parameter (omega (arith, size, inside))
    (ap (λ (xs : List TypedName). get_or xs k parameter) (sym items) ∙ sym c.parameter-item.is)
    (sym c.is_constrained-is_met.ensures ∙ c.if-not-is_met.true)

pub returns : goal.returns
returns c =
    let items = c.as_slice-parameter-items.ensures in
    let size = ap (λ (xs : List TypedName). length xs) items in
    let past = c.loop-parameter-test.false in
    result_lacks c.args.program.now c.args.function.now c.is_constrained.result c.is_constrained.ensures
    (all_met c.args.program.now c.args.function.now c.loop-parameter.parameter-index (omega (arith, size, past)) c.loop-parameter.invariant)
