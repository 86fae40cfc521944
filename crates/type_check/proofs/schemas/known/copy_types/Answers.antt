use Rattle.std.proofs.Common.{List, ◌∷◌, [], ◌++◌, length, take, refl, sym, ◌∙◌, ap}
use Rattle.std.proofs.lemmas.List.{take_all}
use Rattle.std.proofs.lemmas.Option.{slice_get_read}
use Rattle.base.specs.TypeData.{TypeData}
use Rattle.type_check.proofs.SchemasLists.{take_next}
use Rattle.type_check.proofs.schemas.known.copy_types.Goals as goal

pub loop-of-init : goal.loop-of-init
loop-of-init c = c.new-copy.ensures.items

pub loop-of-preserved : goal.loop-of-preserved
loop-of-preserved c =
    let n = c.loop-of.of-index in
    c.in_ok-push.ensures.items
    ∙ ap (λ (xs : List TypeData). xs ++ c.in_ok-copy_type.field-0 ∷ []) c.loop-of.invariant
    ∙ ap (λ (x : TypeData). take n c.args.types.now ++ x ∷ []) c.in_ok-copy_type.ensures
    ∙ sym (take_next c.args.types.now n c.of-item.result (slice_get_read c.args.types.now (length c.args.types.now) n c.of-item.result refl c.loop-of-test.true c.of-item.is))

pub returns : goal.returns
returns c = c.loop-of.invariant ∙ take_all c.loop-of.of-index c.args.types.now c.loop-of-test.false
