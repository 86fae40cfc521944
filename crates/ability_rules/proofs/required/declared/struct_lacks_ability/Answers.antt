use Rattle.std.proofs.Common.{◌≡◌, List, length, get_or, true, sym, ◌∙◌, ap, arith}
use Rattle.program.specs.declared.declaration.TypedName.{TypedName}
use Rattle.typing_rules.specs.Required.{field_is_able}
use Rattle.ability_rules.proofs.Fields.{all_able, found_lacking, more_able}
use Rattle.ability_rules.proofs.required.declared.struct_lacks_ability.Goals as goal

pub loop-field-preserved : goal.loop-field-preserved
loop-field-preserved c =
    let field = c.field-item.result in
    let k = c.loop-field.field-index in
    let items = c.as_slice-field-items.ensures in
    let size = ap (λ (xs : List TypedName). length xs) items in
    let inside = c.loop-field-test.true in
    let able : field_is_able c.args.program.now.structs c.args.declaration.now field ≡ true = sym c.is_field_able-is_able.ensures ∙ c.if-not-is_able.false in
    more_able c.args.program.now c.args.declaration.now k field (omega (arith, size, inside))
    (ap (λ (xs : List TypedName). get_or xs k field) (sym items) ∙ sym c.field-item.is)
    able c.loop-field.invariant

pub returns-then-not-is_able : goal.returns-then-not-is_able
returns-then-not-is_able c =
    let field = c.field-item.result in
    let k = c.loop-field.field-index in
    let items = c.as_slice-field-items.ensures in
    let size = ap (λ (xs : List TypedName). length xs) items in
    let inside = c.loop-field-test.true in
    found_lacking c.args.program.now c.args.declaration.now k field (omega (arith, size, inside))
    (ap (λ (xs : List TypedName). get_or xs k field) (sym items) ∙ sym c.field-item.is)
    (sym c.is_field_able-is_able.ensures ∙ c.if-not-is_able.true)

pub returns : goal.returns
returns c =
    let items = c.as_slice-field-items.ensures in
    let size = ap (λ (xs : List TypedName). length xs) items in
    let past = c.loop-field-test.false in
    all_able c.args.program.now c.args.declaration.now c.loop-field.field-index (omega (arith, size, past)) c.loop-field.invariant
