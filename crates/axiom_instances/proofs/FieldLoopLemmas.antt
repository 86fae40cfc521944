-- The rows of one field after another.
use Rattle.std.proofs.Common.{◌≡◌, ℕ, ◌+◌, List, Option, None, sym, ap, ◌∙◌}
use Rattle.std.specs.Prelude.{slice_index_or}
use Rattle.term_pool.specs.declared.node.Node.{Node}
use Rattle.axiom_instances.specs.declared.triggered.TriggeredAxiom.{TriggeredAxiom}
use Rattle.axiom_instances.specs.Lists.{Adds}
use Rattle.axiom_instances.specs.Numbers.{IsTermNumber, IsTypeNumber, term_at, type_at}
use Rattle.axiom_instances.specs.StructRows.{upto}
use Rattle.axiom_instances.proofs.ListLemmas.{adds_then, adds_as}
use Rattle.axiom_instances.proofs.NumberLemmas.{term_kept}
use Rattle.axiom_instances.proofs.StructLemmas.{upto_next}
use Rattle.axiom_instances.specs.FieldTypedRows.{IsFound, found_rows, typed_rows}
use Rattle.axiom_instances.proofs.StructAxiomsNumberLemmas.{type_kept}
use Rattle.axiom_instances.proofs.FieldTypedLemmas.{rows_kept}

pub one_more_field : {ns ms ks : List Node} {xs ys zs : List TriggeredAxiom} (of term k : ℕ) (founds : List (Option ℕ)) (found : Option ℕ) → found ≡ slice_index_or founds k None → IsTypeNumber ns of → IsTermNumber ns term → IsFound ns found → Adds ns ms xs ys (upto (typed_rows ns (type_at ns of) (term_at ns term) founds) k) → Adds ms ks ys zs (found_rows ms (type_at ms of) (term_at ms term) k found) → Adds ns ks xs zs (upto (typed_rows ns (type_at ns of) (term_at ns term) founds) (k + 1))
one_more_field {ns} {ms} of term k founds found same h w is before more =
    let s = type_at ns of in
    let t = term_at ns term in
    let e = before.extends in
    let f = typed_rows ns s t founds in
    let rows : found_rows ms (type_at ms of) (term_at ms term) k found ≡ f k = (λ i. found_rows ms (type_kept e h i) (term_kept e w i) k found) ∙ rows_kept s t k found e is ∙ ap (found_rows ns s t k) same in
    adds_as (sym (upto_next f k)) (adds_then before (adds_as rows more))
