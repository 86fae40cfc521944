use Rattle.std.proofs.Common.{◌∷◌, refl, sym, ap}
use Rattle.axiom_instances.specs.Numbers.{term_at, type_at}
use Rattle.axiom_instances.proofs.ListLemmas.{ready, adds_then, adds_as, adds_made}
use Rattle.axiom_instances.proofs.NumberLemmas.{given_4, one_term, term_kept}
use Rattle.axiom_instances.proofs.StructLemmas.{upto_next}
use Rattle.axiom_instances.specs.SetFieldRows.{set_row, other_rows}
use Rattle.axiom_instances.proofs.StructAxiomsNumberLemmas.{type_kept, set_field_stays}
use Rattle.axiom_instances.proofs.struct_axioms.set_fields.ask_set_fields.Goals as goal

pub ask-requires : goal.ask-requires
ask-requires c = ready (given_4 c.requires.whole c.requires.of c.requires.first c.requires.second) refl refl

pub loop-other-init : goal.loop-other-init
loop-other-init c =
    adds_made c.in_ok-ask.ensures.adds (given_4 c.requires.whole c.requires.of c.requires.first c.requires.second) (one_term c.requires.whole)

pub ask_other_field-requires : goal.ask_other_field-requires
ask_other_field-requires c = set_field_stays c.loop-other.invariant.extends c.requires

pub loop-other-preserved : goal.loop-other-preserved
loop-other-preserved c =
    let ns = c.args.pool.now in
    let e = c.loop-other.invariant.extends in
    let k = c.args.set.field in
    let j = c.loop-other.other in
    let f = other_rows (type_at ns c.args.set.of) k (term_at ns c.args.set.before) (term_at ns c.args.set.value) in
    let first = set_row (type_at ns c.args.set.of) k (term_at ns c.args.set.before) (term_at ns c.args.set.value) in
    let more = adds_as (λ i. other_rows (type_kept e c.requires.of i) k (term_kept e c.requires.first i) (term_kept e c.requires.second i) j) c.in_ok-ask_other_field.ensures.adds in
    adds_as (ap (λ rs. first ∷ rs) (sym (upto_next f j))) (adds_then c.loop-other.invariant more)
