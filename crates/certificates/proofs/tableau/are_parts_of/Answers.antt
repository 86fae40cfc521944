use Rattle.std.proofs.Common.{◌≡◌, sym, ap, ◌∙◌, rules}
use Rattle.fol.specs.declared.operators.Junction.TheVariants.{AllOf}
use Rattle.fol.specs.FormulaData.{JoinFormula, formulas_of}
use Rattle.fol.specs.FormulaView.{formula_of_node}
use Rattle.certificates.proofs.TableauLemmas.{as_some, all_of_parts}
use Rattle.certificates.proofs.tableau.are_parts_of.Goals as goal

pub returns-then-eq : goal.returns-then-eq
returns-then-eq c =
    let junction : c.in-Join.junction ≡ AllOf = search rules in
    let stored = (λ i. JoinFormula (sym junction i) (formulas_of (c.as_slice.ensures.value i))) ∙ ap formula_of_node (sym c.in-Join.is) ∙ c.of.view_is in
    as_some _ _ _ _ (all_of_parts _ _ stored) c.same_formulas.ensures.items
