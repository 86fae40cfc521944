-- Formulas have one number.
use Rattle.std.proofs.Common.{◌≡◌, ℕ, List, sym, ap, ◌∙◌}
use Rattle.term_pool.specs.Items.{FormulaItem}
use Rattle.term_pool.specs.Pools.{item_at, IsOneNumber}
use Rattle.term_pool.specs.declared.node.Node.{Node}
use Rattle.term_pool.proofs.ShapeLemmas.{a_formula}
use Rattle.tableau.specs.PoolBranches.{IsFormulaNumber}
use Rattle.tableau.specs.Numbers.{formula_at}

pub formula_once : (ns : List Node) → IsOneNumber ns → (i j : ℕ) → IsFormulaNumber ns i → IsFormulaNumber ns j → formula_at ns i ≡ formula_at ns j → i ≡ j
formula_once ns one i j s t e =
    one.one i j s.within t.within (sym (a_formula (item_at ns i) s.sort) ∙ ap FormulaItem e ∙ a_formula (item_at ns j) t.sort)
