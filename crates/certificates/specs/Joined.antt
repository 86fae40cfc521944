-- Congruence classes of terms: the least congruence that contains each equation of a branch, and formulas that are
-- equal up to it (C. G. Nelson and D. C. Oppen, Fast Decision Procedures Based on Congruence Closure).
use Rattle.std.specs.Prelude.{◌≡◌, ℕ, false, List, [], ◌∷◌, All}
use Rattle.base.specs.TypeData.{TypeData}
use Rattle.fol.specs.declared.operators.Comparison.{Comparison}
use Rattle.fol.specs.declared.operators.Connective.{Connective}
use Rattle.fol.specs.declared.operators.Junction.{Junction}
use Rattle.fol.specs.declared.operators.Quantifier.{Quantifier}
use Rattle.fol.specs.FormulaData.{TermData, IfTerm, TermsData, NoTerms, MoreTerms, TriggersData, NoTriggers, MoreTriggers, FormulaData, CompareFormula, IsFormula, HoldsFormula, NotFormula, JoinFormula, ConnectFormula, QuantifyFormula, EqFormula, SelectTerm, AtTerm, FormulasData, NoFormulas, MoreFormulas}
use Rattle.substitution.specs.Free.{free_in_term}
use Rattle.certificates.specs.BranchesParts.{parts_of_term, with_parts}
use Rattle.certificates.specs.BranchesBranch.{Branch, Says, IsTerm}

-- none of the variables is free in the term
abbrev pub IsFreeOf : List ℕ → TermData → Type 0
IsFreeOf ns t = All (λ n. free_in_term n t ≡ false) ns

mutual
  -- the terms are of one class
  pub data Joined (b : Branch) : TermData → TermData → Type 0 where
    ByEntry : (i : ℕ) (t u : TermData) → Says b i (EqFormula t u) → Joined b t u
    ByParts : (t u : TermData) → with_parts t (parts_of_term u) ≡ u → AreJoined b (parts_of_term t) (parts_of_term u) → Joined b t u
    ByCondition : (p q : FormulaData) (t u : TermData) → IsAlike b [] p q → Joined b (IfTerm p t u) (IfTerm q t u)
    Turned : (t u : TermData) → Joined b t u → Joined b u t
    Chained : (t u v : TermData) → Joined b t u → Joined b u v → Joined b t v

  pub data AreJoined (b : Branch) : List TermData → List TermData → Type 0 where
    NoneJoined : AreJoined b [] []
    MoreJoined : (t u : TermData) (ts us : List TermData) → Joined b t u → AreJoined b ts us → AreJoined b (t ∷ ts) (u ∷ us)

  -- under quantifiers of these variables: the terms are equal up to classes of terms in which none of them is free
  pub data IsAlikeTerm (b : Branch) : List ℕ → TermData → TermData → Type 0 where
    OfOneClass : (bound : List ℕ) → (t u : TermData) → IsFreeOf bound t → IsFreeOf bound u → Joined b t u → IsAlikeTerm b bound t u
    OfOneHead : (bound : List ℕ) → (t u : TermData) → with_parts t (parts_of_term u) ≡ u → AreAlikeTerms b bound (parts_of_term t) (parts_of_term u) → IsAlikeTerm b bound t u
    OfOneChoice : (bound : List ℕ) → (p q : FormulaData) (t u v w : TermData) → IsAlike b bound p q → IsAlikeTerm b bound t v → IsAlikeTerm b bound u w → IsAlikeTerm b bound (IfTerm p t u) (IfTerm q v w)

  pub data AreAlikeTerms (b : Branch) : List ℕ → List TermData → List TermData → Type 0 where
    NoneAlike : (bound : List ℕ) → AreAlikeTerms b bound [] []
    MoreAlike : (bound : List ℕ) → (t u : TermData) (ts us : List TermData) → IsAlikeTerm b bound t u → AreAlikeTerms b bound ts us → AreAlikeTerms b bound (t ∷ ts) (u ∷ us)

  -- the same for formulas
  pub data IsAlike (b : Branch) : List ℕ → FormulaData → FormulaData → Type 0 where
    Compared : (bound : List ℕ) → (o : Comparison) (t u v w : TermData) → IsAlikeTerm b bound t v → IsAlikeTerm b bound u w → IsAlike b bound (CompareFormula o t u) (CompareFormula o v w)
    Typed : (bound : List ℕ) → (a : TypeData) (t u : TermData) → IsAlikeTerm b bound t u → IsAlike b bound (IsFormula a t) (IsFormula a u)
    Holding : (bound : List ℕ) → (t u : TermData) → IsAlikeTerm b bound t u → IsAlike b bound (HoldsFormula t) (HoldsFormula u)
    Denying : (bound : List ℕ) → (p q : FormulaData) → IsAlike b bound p q → IsAlike b bound (NotFormula p) (NotFormula q)
    Joining : (bound : List ℕ) → (o : Junction) (ps qs : FormulasData) → AreAlike b bound ps qs → IsAlike b bound (JoinFormula o ps) (JoinFormula o qs)
    Connecting : (bound : List ℕ) → (o : Connective) (p q r s : FormulaData) → IsAlike b bound p r → IsAlike b bound q s → IsAlike b bound (ConnectFormula o p q) (ConnectFormula o r s)
    Quantifying : (bound : List ℕ) → (o : Quantifier) (n : ℕ) (ts us : TriggersData) (p q : FormulaData) → AreAlikeTriggers b (n ∷ bound) ts us → IsAlike b (n ∷ bound) p q → IsAlike b bound (QuantifyFormula o n ts p) (QuantifyFormula o n us q)

  pub data AreAlike (b : Branch) : List ℕ → FormulasData → FormulasData → Type 0 where
    NoFormulasAlike : (bound : List ℕ) → AreAlike b bound NoFormulas NoFormulas
    MoreFormulasAlike : (bound : List ℕ) → (p q : FormulaData) (ps qs : FormulasData) → IsAlike b bound p q → AreAlike b bound ps qs → AreAlike b bound (MoreFormulas p ps) (MoreFormulas q qs)

  pub data AreAlikeLists (b : Branch) : List ℕ → TermsData → TermsData → Type 0 where
    NoTermsAlike : (bound : List ℕ) → AreAlikeLists b bound NoTerms NoTerms
    MoreTermsAlike : (bound : List ℕ) → (t u : TermData) (ts us : TermsData) → IsAlikeTerm b bound t u → AreAlikeLists b bound ts us → AreAlikeLists b bound (MoreTerms t ts) (MoreTerms u us)

  pub data AreAlikeTriggers (b : Branch) : List ℕ → TriggersData → TriggersData → Type 0 where
    NoTriggersAlike : (bound : List ℕ) → AreAlikeTriggers b bound NoTriggers NoTriggers
    MoreTriggersAlike : (bound : List ℕ) → (t u : TermsData) (ts us : TriggersData) → AreAlikeLists b bound t u → AreAlikeTriggers b bound ts us → AreAlikeTriggers b bound (MoreTriggers t ts) (MoreTriggers u us)

-- the memory is read at the key: a read of it there is on the branch, up to classes
pub record IsSelected (b : Branch) (m key : TermData) : Type 0 where
  pub memory : TermData
  pub position : TermData
  pub stands : IsTerm b (SelectTerm memory position)
  pub same_memory : Joined b memory m
  pub same_position : Joined b position key

-- the same for a vector at an index
pub record IsItemRead (b : Branch) (v i : TermData) : Type 0 where
  pub vector : TermData
  pub position : TermData
  pub stands : IsTerm b (AtTerm vector position)
  pub same_vector : Joined b vector v
  pub same_position : Joined b position i
