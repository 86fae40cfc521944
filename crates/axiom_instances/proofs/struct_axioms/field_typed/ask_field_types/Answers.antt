use Rattle.std.proofs.Common.{◌≡◌, length, get_or, None, refl, ap, arith}
use Rattle.axiom_instances.specs.Numbers.{term_at, type_at}
use Rattle.axiom_instances.specs.StructRows.{upto}
use Rattle.axiom_instances.proofs.ListLemmas.{adds_none, adds_as}
use Rattle.axiom_instances.proofs.NumberLemmas.{number_stays}
use Rattle.axiom_instances.specs.FieldTypedRows.{typed_rows}
use Rattle.axiom_instances.proofs.StructAxiomsNumberLemmas.{type_stays}
use Rattle.axiom_instances.proofs.FieldTypedLemmas.{found_stays}
use Rattle.axiom_instances.proofs.FieldLoopLemmas.{one_more_field}
use Rattle.axiom_instances.proofs.struct_axioms.field_typed.ask_field_types.Goals as goal

pub loop-field-init : goal.loop-field-init
loop-field-init c = adds_none _ _

pub ask_field_type-requires-clause-of : goal.ask_field_type-requires-clause-of
ask_field_type-requires-clause-of c = type_stays c.loop-field.invariant.extends c.requires.of

pub ask_field_type-requires-clause-term : goal.ask_field_type-requires-clause-term
ask_field_type-requires-clause-term c = number_stays c.loop-field.invariant.extends c.requires.term

pub ask_field_type-requires-clause-found : goal.ask_field_type-requires-clause-found
ask_field_type-requires-clause-found c =
    found_stays (get_or c.args.types.now c.loop-field.field None) c.loop-field.invariant.extends (c.requires.found.each c.loop-field.field)

pub loop-field-preserved : goal.loop-field-preserved
loop-field-preserved c =
    one_more_field c.args.of c.args.term c.loop-field.field c.args.types.now (get_or c.args.types.now c.loop-field.field None) refl c.requires.of c.requires.term (c.requires.found.each c.loop-field.field) c.loop-field.invariant c.in_ok-ask_field_type.ensures.adds

pub returns-clause-adds : goal.returns-clause-adds
returns-clause-adds c =
    let ns = c.args.pool.now in
    let all : c.loop-field.field ≡ length c.args.types.now = omega arith in
    adds_as (ap (upto (typed_rows ns (type_at ns c.args.of) (term_at ns c.args.term) c.args.types.now)) all) c.loop-field.invariant
