-- Each part of a term or a formula is smaller than the whole.
use Rattle.std.specs.Prelude.{◌+◌, ◌≤◌, max, List, [], ◌∷◌}
use Rattle.std.proofs.Common.{arith}
use denote.Param.Weighed.{most}
use Rattle.fol.specs.FormulaData.{TermData, TermsData, FormulaData, term_size, terms_size, triggers_size, formula_size, formulas_size, terms_of, triggers_of, formulas_of}
use Rattle.fol.specs.FormulaView.{term_of_node, formula_of_node}
use Rattle.fol.specs.declared.formula.TermNode.{TermNode}
use Rattle.fol.specs.declared.formula.TermNode.TheVariants.{Var, Constant, Unary, Binary, Ternary, Pack, Field, SetField, If}
use Rattle.fol.specs.declared.formula.FormulaNode.{FormulaNode}
use Rattle.fol.specs.declared.formula.FormulaNode.TheVariants.{Compare, Is, Holds, Not, Join, Connect, Quantify}
use Rattle.fol.specs.declared.formula.Formula.TheDeep.{deep-TermNode, deep-FormulaNode}

-- no term is larger than all of them together
pub terms_fall : (ts : List TermData) → max (most (λ t. term_size t + 1) ts) 0 ≤ terms_size (terms_of ts)
terms_fall [] = omega arith
terms_fall (t ∷ ts) = omega (arith, terms_fall ts)

pub triggers_fall : (ts : List TermsData) → max (most (λ t. terms_size t + 1) ts) 0 ≤ triggers_size (triggers_of ts)
triggers_fall [] = omega arith
triggers_fall (t ∷ ts) = omega (arith, triggers_fall ts)

pub formulas_fall : (ps : List FormulaData) → max (most (λ p. formula_size p + 1) ps) 0 ≤ formulas_size (formulas_of ps)
formulas_fall [] = omega arith
formulas_fall (p ∷ ps) = omega (arith, formulas_fall ps)

pub term_falls : (n : TermNode) → max (deep-TermNode n) 0 ≤ term_size (term_of_node n)
term_falls (Var n) = omega arith
term_falls (Constant c) = omega arith
term_falls (Unary o t) = omega arith
term_falls (Binary o t u) = omega arith
term_falls (Ternary o t u v) = omega arith
term_falls (Pack a ts) = omega (arith, terms_fall ts.items)
term_falls (Field a k t) = omega arith
term_falls (SetField a k t u) = omega arith
term_falls (If p t u) = omega arith

pub formula_falls : (n : FormulaNode) → max (deep-FormulaNode n) 0 ≤ formula_size (formula_of_node n)
formula_falls (Compare o t u) = omega arith
formula_falls (Is a t) = omega arith
formula_falls (Holds t) = omega arith
formula_falls (Not p) = omega arith
formula_falls (Join o ps) = omega (arith, formulas_fall ps.items)
formula_falls (Connect o p q) = omega arith
formula_falls (Quantify o n ts p) = omega (arith, triggers_fall ts.items)
