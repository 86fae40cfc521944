use Rattle.std.proofs.Common.{◌<◌, length, refl, sym, arith}
use Rattle.fol.specs.FormulaData.{list_of_terms}
use Rattle.term_pool.proofs.GrowthLemmas.{item_stays}
use Rattle.axiom_instances.specs.Numbers.{term_at, terms_at, type_at}
use Rattle.axiom_instances.specs.StructRows.{field_rows}
use Rattle.axiom_instances.proofs.ListLemmas.{ready, adds_none, adds_then, adds_as, adds_made}
use Rattle.axiom_instances.proofs.NumberLemmas.{given_3, one_term, term_number}
use Rattle.axiom_instances.proofs.StructLemmas.{upto_next}
use Rattle.axiom_instances.proofs.FieldLemmas.{part_here}
use Rattle.axiom_instances.proofs.structs.ask_fields.Goals as goal

pub loop-k-init : goal.loop-k-init
loop-k-init c = adds_none _ _

pub ask-requires : goal.ask-requires
ask-requires c =
    let e = c.loop-k.invariant.extends in
    let us = list_of_terms (terms_at c.args.pool.now c.args.parts) in
    let w : c.loop-k.k < length c.args.numbers.now = omega arith in
    ready (given_3 (item_stays e (term_number c.requires.term.whole)) (item_stays e c.requires.term.of) (item_stays e (part_here us c.loop-k.k c.requires.numbers w))) refl refl

pub loop-k-preserved : goal.loop-k-preserved
loop-k-preserved c =
    let e = c.loop-k.invariant.extends in
    let us = list_of_terms (terms_at c.args.pool.now c.args.parts) in
    let w : c.loop-k.k < length c.args.numbers.now = omega arith in
    let f = field_rows (type_at c.args.pool.now c.args.of) (term_at c.args.pool.now c.args.term) us in
    let made = adds_made c.in_ok-ask.ensures.adds (given_3 (item_stays e (term_number c.requires.term.whole)) (item_stays e c.requires.term.of) (item_stays e (part_here us c.loop-k.k c.requires.numbers w))) (one_term (item_stays e (term_number c.requires.term.whole))) in
    adds_as (sym (upto_next f c.loop-k.k)) (adds_then c.loop-k.invariant made)
