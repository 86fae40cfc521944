use Rattle.std.proofs.Common.{◌≡◌, length, arith}
use Rattle.term_pool.proofs.GrowthLemmas.{extends_then}
use Rattle.axiom_instances.proofs.NumberLemmas.{number_stays, term_number}
use Rattle.axiom_instances.proofs.StructAxiomsNumberLemmas.{type_stays}
use Rattle.axiom_instances.proofs.PackAddedLemmas.{list_number, shapeless, types_found, parts_numbered, other_count, type_lacking, row_added}
use Rattle.axiom_instances.proofs.struct_axioms.pack_typed.ask_parts.Goals as goal

pub returns-in_default-clause-adds : goal.returns-in_default-clause-adds
returns-in_default-clause-adds c =
    shapeless c.args.shapes.now c.requires c.field_types.ensures.extends _ (rw c.in_default.is at c.in_ok-types.ensures.are)

pub returns-then-len-clause-adds : goal.returns-then-len-clause-adds
returns-then-len-clause-adds c =
    let types = rw c.in-Some.is at c.in_ok-types.ensures.are in
    other_count c.args.shapes.now c.requires c.field_types.ensures.extends c.in-Some.types.items types c.in_ok-numbers.numbers.items c.in_ok-numbers.ensures _ (λ e. c.if-len.true (omega (arith, e, c.in-Some.types.ok.0, c.in_ok-numbers.numbers.ok.0)))

pub typed_list-requires-clause-types : goal.typed_list-requires-clause-types
typed_list-requires-clause-types c =
    let types = rw c.in-Some.is at c.in_ok-types.ensures.are in
    rw c.as_slice.ensures.value (types_found c.args.shapes.now c.requires c.field_types.ensures.extends c.in-Some.types.items types c.in_ok-numbers.numbers.items c.in_ok-numbers.ensures)

pub typed_list-requires-clause-parts : goal.typed_list-requires-clause-parts
typed_list-requires-clause-parts c =
    let types = rw c.in-Some.is at c.in_ok-types.ensures.are in
    rw c.as_slice-2.ensures.value (parts_numbered c.args.shapes.now c.requires c.field_types.ensures.extends c.in-Some.types.items types c.in_ok-numbers.numbers.items c.in_ok-numbers.ensures)

pub returns-in_default-2-clause-adds : goal.returns-in_default-2-clause-adds
returns-in_default-2-clause-adds c =
    let types = rw c.in-Some.is at c.in_ok-types.ensures.are in
    let lack = rw c.in_default-2.is at c.in_ok-formulas.ensures.is in
    let many : length c.in-Some.types.items ≡ length c.in_ok-numbers.numbers.items = omega (arith, c.in-Some.types.ok.0, c.in_ok-numbers.numbers.ok.0, c.if-len.false) in
    type_lacking c.args.shapes.now c.requires c.field_types.ensures.extends c.in-Some.types.items types c.in_ok-numbers.numbers.items c.in_ok-numbers.ensures many c.typed_list.ensures.extends _ (rw c.as_slice.ensures.value at lack)

pub ask_typed_parts-requires-clause-of : goal.ask_typed_parts-requires-clause-of
ask_typed_parts-requires-clause-of c = type_stays (extends_then c.field_types.ensures.extends c.typed_list.ensures.extends) c.requires.of

pub ask_typed_parts-requires-clause-term : goal.ask_typed_parts-requires-clause-term
ask_typed_parts-requires-clause-term c =
    number_stays (extends_then c.field_types.ensures.extends c.typed_list.ensures.extends) (term_number c.requires.whole)

pub ask_typed_parts-requires-clause-formulas : goal.ask_typed_parts-requires-clause-formulas
ask_typed_parts-requires-clause-formulas c = let typed = rw c.in-Some-2.is at c.in_ok-formulas.ensures.is in list_number typed

pub returns-clause-adds : goal.returns-clause-adds
returns-clause-adds c =
    let types = rw c.in-Some.is at c.in_ok-types.ensures.are in
    let typed = rw c.in-Some-2.is at c.in_ok-formulas.ensures.is in
    let many : length c.in-Some.types.items ≡ length c.in_ok-numbers.numbers.items = omega (arith, c.in-Some.types.ok.0, c.in_ok-numbers.numbers.ok.0, c.if-len.false) in
    row_added c.args.shapes.now c.requires c.field_types.ensures.extends c.in-Some.types.items types c.in_ok-numbers.numbers.items c.in_ok-numbers.ensures many c.typed_list.ensures.extends c.in-Some-2.formulas (rw (c.as_slice.ensures.value, c.as_slice-2.ensures.value) at typed) c.in_ok-ask_typed_parts.ensures.adds
