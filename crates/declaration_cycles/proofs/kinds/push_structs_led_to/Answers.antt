use Rattle.std.proofs.Common.{◌++◌, ℕ, length, Option, Bor, refl, ◌∙◌, ap}
use Rattle.std.proofs.lemmas.Option.{slice_get_read}
use Rattle.base.specs.declared.types.StructId.{StructId}
use Rattle.program.specs.Same.{same_struct}
use Rattle.declaration_cycles.specs.Edges.{edge, number}
use Rattle.declaration_cycles.proofs.Naming.{pushed_mapped}
use Rattle.declaration_cycles.proofs.kinds.push_structs_led_to.Goals as goal

pub loop-id-preserved : goal.loop-id-preserved
loop-id-preserved c =
    let structs = c.args.program.now.structs in
    let now_of = λ (id : Bor StructId). id.now in
    let piece = λ (id : StructId). edge c.args.from (number same_struct structs id) in
    pushed_mapped piece now_of c.args.structs.now c.loop-id.id-index c.id-item.result c.args.into.now.items c.loop-id.into.items c.push_edge.new.into.items
    (slice_get_read c.args.structs.now (length c.args.structs.now) c.loop-id.id-index c.id-item.result refl c.loop-id-test.true c.id-item.is)
    c.loop-id.invariant
    (c.in_ok-push_edge.ensures ∙ ap (λ (o : Option ℕ). c.loop-id.into.items ++ edge c.args.from o) c.number.ensures)
