use Rattle.std.proofs.Common.{◌≡◌, sym, ap, ◌∙◌, rules}
use Rattle.fol.specs.FormulaData.{PackTerm, terms_of}
use Rattle.fol.specs.FormulaView.{term_of_node}
use Rattle.axioms.proofs.FieldLists.{pack_stored}
use Rattle.axioms.proofs.structs.is_pack_with.Goals as goal

pub returns-then-same_type : goal.returns-then-same_type
returns-then-same_type c =
    let made : c.in-Pack.made ≡ c.args.of.now = search rules in
    let stored = (λ i. PackTerm (sym made i) (terms_of (c.as_slice.ensures.value i))) ∙ ap term_of_node (sym c.in-Pack.is) ∙ c.packed.view_is in
    pack_stored _ _ _ _ _ _ _ stored c.are_fields_with.ensures
