-- Equations that formulas negate.
use Rattle.std.proofs.Common.{◌≡◌, ℕ, List, Option, Some, None, sym, ap, ◌∙◌, arith}
use Rattle.std.specs.Prelude.{MatchOption}
use Rattle.std.proofs.lemmas.Option.{slice_get_within}
use Rattle.fol.specs.declared.operators.Comparison.TheVariants.{Eq}
use Rattle.fol.specs.FormulaData.{TermData, EqFormula, NotFormula}
use Rattle.term_pool.specs.Items.{formula_in}
use Rattle.term_pool.specs.Forms.{IsDenialOf, IsNoEquation, IsEquationOf}
use Rattle.term_pool.specs.declared.node.Two.TheVariants.{Compare}
use Rattle.term_pool.specs.declared.node.Node.{Node}
use Rattle.term_pool.specs.declared.node.Node.TheVariants.{Two as TwoNode}
use Rattle.tableau.specs.Numbers.{formula_at}
use Rattle.axiom_strategy.specs.Denials.{AreSidesDenied}

pub sides_answer : (ns : List Node) (n inner : ℕ) → IsDenialOf ns n inner → (o : Option (ℕ × ℕ)) → MatchOption o (IsNoEquation (formula_at ns inner)) (IsEquationOf ns inner) → MatchOption o ((t u : TermData) → formula_at ns n ≡ NotFormula (EqFormula t u) → ⊥) (AreSidesDenied ns n)
sides_answer ns n inner made None h = λ t u e. (
    let both : NotFormula (formula_at ns inner) ≡ NotFormula (EqFormula t u) = sym (ap formula_in made.item) ∙ e in
    let same : formula_at ns inner ≡ EqFormula t u = cc in
    h.none t u same)
sides_answer ns n inner made (Some p) h =
    let w = slice_get_within ns inner (TwoNode (Compare Eq) p.0 p.1) h.found in
    let first = h.parts.0.earlier in
    let second = h.parts.1.earlier in
    record {
      left = record { within = omega (arith, w, first); sort = h.parts.0.sort };
      right = record { within = omega (arith, w, second); sort = h.parts.1.sort };
      is = ap formula_in made.item ∙ ap NotFormula (ap formula_in h.item);
    }
