use Rattle.std.proofs.Common.{◌<◌, ◌^◌, List, length, sym, ap, subst, arith}
use Rattle.base.specs.TypeData.{TypeData}
use Rattle.axioms.specs.Fields.{HasFields}
use Rattle.axiom_instances.specs.StructRows.{HasNoFields}
use Rattle.axiom_instances.proofs.FieldLemmas.{few_here, fields_here, no_fields_here}
use Rattle.axiom_instances.proofs.structs.field_count.Goals as goal

pub overflow_cast-result : goal.overflow_cast-result
overflow_cast-result c =
    let few = few_here c.args.shapes.now c.in_ok-of.of c.in-Some.shape.now c.requires c.in-Some.ensures in
    let f : length c.items.result.now < 2 ^ 32 = subst (λ (ts : List TypeData). length ts < 2 ^ 32) (sym c.items.ensures) few in
    omega arith

pub returns-in-Some : goal.returns-in-Some
returns-in-Some c =
    subst (λ a. HasFields c.args.shapes.now a (length c.items.result.now)) c.in_ok-of.ensures
    (fields_here c.args.shapes.now c.in_ok-of.of c.in-Some.shape.now (length c.items.result.now) c.in-Some.ensures (ap length (sym c.items.ensures)))

pub returns : goal.returns
returns c = subst (HasNoFields c.args.shapes.now) c.in_ok-of.ensures (no_fields_here c.args.shapes.now c.in_ok-of.of c.in-None.ensures)
