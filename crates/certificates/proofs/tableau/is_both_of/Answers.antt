use Rattle.std.proofs.Common.{sym, ap, ◌∙◌, ◌≡◌, rules}
use Rattle.fol.specs.declared.operators.Junction.TheVariants.{AllOf}
use Rattle.fol.specs.FormulaData.{AllOfFormula, JoinFormula, formulas_of}
use Rattle.fol.specs.FormulaView.{formula_of_node}
use Rattle.certificates.proofs.TableauLemmas.{two_parts}
use Rattle.certificates.proofs.tableau.is_both_of.Goals as goal

pub returns-then-eq : goal.returns-then-eq
returns-then-eq c =
    let all : c.in-Join.junction ≡ AllOf = search rules in
    let stored = (λ i. JoinFormula (sym all i) (formulas_of (c.as_slice.ensures.value i))) ∙ ap formula_of_node (sym c.in-Join.is) ∙ c.formula.view_is in (
      λ h. sym stored ∙ ap (λ ps. AllOfFormula (formulas_of ps)) (c.are_entries.ensures.0 h),
      λ e. c.are_entries.ensures.1 (two_parts _ _ _ _ stored e),
    )
