use Rattle.std.proofs.Common.{◌<◌, ◌^◌, length, sym, subst, arith}
use Rattle.std.proofs.lemmas.List.Elements.{All-nil, All-push}
use Rattle.base.specs.TypeData.{list_of_types}
use Rattle.fol.specs.declared.shapes.Shape.{Shape}
use Rattle.axiom_instances.specs.StructRows.{HasFewFields}
use Rattle.prover_tests.proofs.structs.shapes.Goals as goal

pub loop-count-init : goal.loop-count-init
loop-count-init c = subst HasFewFields (sym c.new-shapes.ensures) (record { few = All-nil (λ (shape : Shape). length (list_of_types shape.fields) < 2 ^ 32) })

pub loop-count-preserved : goal.loop-count-preserved
loop-count-preserved c = subst HasFewFields (sym c.in_ok-add.ensures.ok) (record { few = All-push (λ (shape : Shape). length (list_of_types shape.fields) < 2 ^ 32) c.loop-count.shapes c.in_ok-one.one c.loop-count.invariant.few (let few = c.in_ok-one.ensures in omega (arith, few)) })
