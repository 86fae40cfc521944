-- Terms that occur in a formula, including its quantifiers and their triggers.
use Rattle.std.specs.Prelude.{ℕ, Contains}
use Rattle.base.specs.TypeData.{TypeData}
use Rattle.fol.specs.declared.operators.Comparison.{Comparison}
use Rattle.fol.specs.declared.operators.Connective.{Connective}
use Rattle.fol.specs.declared.operators.Junction.{Junction}
use Rattle.fol.specs.declared.operators.Quantifier.{Quantifier}
use Rattle.fol.specs.FormulaData.{TermData, IfTerm, TermsData, TriggersData, FormulaData, CompareFormula, IsFormula, HoldsFormula, NotFormula, JoinFormula, ConnectFormula, QuantifyFormula, FormulasData, list_of_terms, list_of_triggers, list_of_formulas}
use Rattle.certificates.specs.BranchesParts.{parts_of_term}
use Rattle.certificates.specs.BranchesBranch.{Branch, Says}

mutual
  -- the term is the other one, or occurs in it
  pub data IsInsideTerm (t : TermData) : TermData → Type 0 where
    Itself : IsInsideTerm t t
    InPart : (u v : TermData) → Contains (parts_of_term u) v → IsInsideTerm t v → IsInsideTerm t u
    InCondition : (p : FormulaData) (u v : TermData) → IsInside t p → IsInsideTerm t (IfTerm p u v)

  -- the term occurs in the formula
  pub data IsInside (t : TermData) : FormulaData → Type 0 where
    InLeft : (o : Comparison) (u v : TermData) → IsInsideTerm t u → IsInside t (CompareFormula o u v)
    InRight : (o : Comparison) (u v : TermData) → IsInsideTerm t v → IsInside t (CompareFormula o u v)
    InTyped : (a : TypeData) (u : TermData) → IsInsideTerm t u → IsInside t (IsFormula a u)
    InHolds : (u : TermData) → IsInsideTerm t u → IsInside t (HoldsFormula u)
    InDenied : (p : FormulaData) → IsInside t p → IsInside t (NotFormula p)
    InJoined : (o : Junction) (ps : FormulasData) (p : FormulaData) → Contains (list_of_formulas ps) p → IsInside t p → IsInside t (JoinFormula o ps)
    InFirst : (o : Connective) (p q : FormulaData) → IsInside t p → IsInside t (ConnectFormula o p q)
    InSecond : (o : Connective) (p q : FormulaData) → IsInside t q → IsInside t (ConnectFormula o p q)
    InBody : (o : Quantifier) (n : ℕ) (ts : TriggersData) (p : FormulaData) → IsInside t p → IsInside t (QuantifyFormula o n ts p)
    InTrigger : (o : Quantifier) (n : ℕ) (ts : TriggersData) (p : FormulaData) (trigger : TermsData) (u : TermData) → Contains (list_of_triggers ts) trigger → Contains (list_of_terms trigger) u → IsInsideTerm t u → IsInside t (QuantifyFormula o n ts p)

-- the term occurs in an entry of the branch
pub record StandsInside (b : Branch) (t : TermData) : Type 0 where
  pub position : ℕ
  pub formula : FormulaData
  pub says : Says b position formula
  pub inside : IsInside t formula
