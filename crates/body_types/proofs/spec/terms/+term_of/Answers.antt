use Rattle.std.proofs.Common.{ℕ, ◌<◌, ◌≤◌, List, All, length, sym, subst, arith}
use Rattle.std.specs.Prelude.{slice_index}
use Rattle.body_types.proofs.Parts.{above, above_least, all_below, arguments_below, below_above, parts_below}
use Rattle.body_types.proofs.spec.terms.+term_of.Goals as goal

pub term_of-struct_term-requires : goal.term_of-struct_term-requires
term_of-struct_term-requires t c =
    let below : All (λ m. m < c.args.number) c.as_slice.result.now = subst (λ (ms : List ℕ). All (λ m. m < c.args.number) ms) (sym c.as_slice.ensures) (arguments_below c.args.number c.in-Struct.id c.in-Struct.arguments c.entry.result.now c.in-Struct.is c.entry.ensures.below) in
    let least : above c.as_slice.result.now ≤ c.args.number = above_least c.args.number c.as_slice.result.now below in
    let lt = c.requires in
    (omega (arith, least), all_below c.args.number (length c.args.pool.now) c.as_slice.result.now (omega (arith, lt)) below)

pub term_of-tuple_term-requires : goal.term_of-tuple_term-requires
term_of-tuple_term-requires t c =
    let below : All (λ m. m < c.args.number) c.as_slice-in-Tuple.result.now = subst (λ (ms : List ℕ). All (λ m. m < c.args.number) ms) (sym c.as_slice-in-Tuple.ensures) (parts_below c.args.number c.in-Tuple.parts c.entry.result.now c.in-Tuple.is c.entry.ensures.below) in
    let least : above c.as_slice-in-Tuple.result.now ≤ c.args.number = above_least c.args.number c.as_slice-in-Tuple.result.now below in
    let lt = c.requires in
    (omega (arith, least), all_below c.args.number (length c.args.pool.now) c.as_slice-in-Tuple.result.now (omega (arith, lt)) below)

pub terms_of-term_of-requires : goal.terms_of-term_of-requires
terms_of-term_of-requires t c =
    let inside = c.loop-number-test.true in
    let below : slice_index c.args.numbers.now c.loop-number.number-index < above c.args.numbers.now = below_above c.args.numbers.now c.loop-number.number-index (omega (arith, inside)) in
    (omega (arith, below), c.requires c.loop-number.number-index 0 (omega (arith, inside)))
