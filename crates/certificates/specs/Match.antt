-- Matches of quantified formulas: terms of a branch for their variables. Triggers are those of the Move Specification
-- Language ("Quantifiers" and "triggers" of its reference); they match syntactically, by E-matching without the
-- congruence.
use Rattle.std.specs.Prelude.{◌≡◌, ℕ, true, false, List, [], ◌∷◌, ◌++◌, All, Contains}
use Rattle.base.specs.TypeData.{TypeData}
use Rattle.fol.specs.declared.operators.Connective.TheVariants.{Implies}
use Rattle.fol.specs.declared.operators.Junction.TheVariants.{AllOf}
use Rattle.fol.specs.FormulaData.{TermData, VarTerm, IfTerm, TermsData, TriggersData, FormulaData, CompareFormula, IsFormula, HoldsFormula, NotFormula, JoinFormula, ConnectFormula, QuantifyFormula, FormulasData, NoFormulas, MoreFormulas, list_of_terms, list_of_triggers}
use Rattle.substitution.specs.Free.{free_in, free_in_terms}
use Rattle.certificates.specs.BranchesParts.{parts_of_term, with_parts}
use Rattle.certificates.specs.BranchesBranch.{Branch, IsTerm, Stands}

-- the variables that a formula binds, outside the conditions of its terms
abbrev mutual
  pub bound_in : FormulaData → List ℕ
  bound_in (CompareFormula o t u) = []
  bound_in (IsFormula a t) = []
  bound_in (HoldsFormula t) = []
  bound_in (NotFormula p) = bound_in p
  bound_in (JoinFormula o ps) = bound_in_all ps
  bound_in (ConnectFormula o p q) = bound_in p ++ bound_in q
  bound_in (QuantifyFormula o n ts p) = n ∷ bound_in p

  pub bound_in_all : FormulasData → List ℕ
  bound_in_all NoFormulas = []
  bound_in_all (MoreFormulas p ps) = bound_in p ++ bound_in_all ps

-- none of the variables is free in the condition of the term, if it has one
abbrev pub IsFreeCondition : List ℕ → TermData → Type 0
IsFreeCondition bound (IfTerm p t u) = All (λ n. free_in n p ≡ false) bound
IsFreeCondition bound t = Unit {0}

-- the second term is the first with terms substituted for these variables, which occur in no condition of it
mutual
  pub data IsFilled (bound : List ℕ) (at : ℕ → TermData) : TermData → TermData → Type 0 where
    OfVariable : (n : ℕ) → Contains bound n → IsFilled bound at (VarTerm n) (at n)
    OfOther : (n : ℕ) → (Contains bound n → ⊥) → IsFilled bound at (VarTerm n) (VarTerm n)
    OfParts : (t u : TermData) → ((n : ℕ) → t ≡ VarTerm n → ⊥) → IsFreeCondition bound t → with_parts t (parts_of_term u) ≡ u → AreFilled bound at (parts_of_term t) (parts_of_term u) → IsFilled bound at t u

  pub data AreFilled (bound : List ℕ) (at : ℕ → TermData) : List TermData → List TermData → Type 0 where
    NoneFilled : AreFilled bound at [] []
    MoreFilled : (t u : TermData) (ts us : List TermData) → IsFilled bound at t u → AreFilled bound at ts us → AreFilled bound at (t ∷ ts) (u ∷ us)

-- the terms of a trigger are on the branch, with the term for the variable and any terms for the other bound variables
pub record IsTriggered (b : Branch) (bound : List ℕ) (n : ℕ) (t : TermData) (trigger : TermsData) : Type 0 where
  pub has_variable : free_in_terms n trigger ≡ true
  pub at : ℕ → TermData
  pub for_variable : at n ≡ t
  pub filled : List TermData
  pub are_filled : AreFilled bound at (list_of_terms trigger) filled
  pub stand : All (IsTerm b) filled

-- the type that the formula gives to the variable at its beginning
abbrev pub Begins : FormulaData → TypeData → ℕ → Type 0
Begins (ConnectFormula Implies p q) a n = p ≡ IsFormula a (VarTerm n)
Begins (JoinFormula AllOf (MoreFormulas p ps)) a n = p ≡ IsFormula a (VarTerm n)
Begins p a n = p ≡ IsFormula a (VarTerm n)

-- a match of a quantifier's variable: by a trigger that has the variable, or, if none has it, by an entry that gives a
-- term the type with which the body begins
pub data IsMatch (b : Branch) (n : ℕ) (triggers : TriggersData) (body : FormulaData) (t : TermData) : Type 0 where
  ByTrigger : (trigger : TermsData) → Contains (list_of_triggers triggers) trigger → IsTriggered b (n ∷ bound_in body) n t trigger → IsMatch b n triggers body t
  ByType : (a : TypeData) → All (λ trigger. free_in_terms n trigger ≡ false) (list_of_triggers triggers) → Begins body a n → Stands b (IsFormula a t) → IsMatch b n triggers body t
