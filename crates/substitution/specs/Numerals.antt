-- The numerals of a formula that are too great for the arithmetic of the search: signed numbers of 128 bits hold those
-- below 2^127, and the greatest `u128` has a constant of its own.
use Rattle.std.specs.Prelude.{◌≢◌, ℕ, ◌-◌, ◌^◌, ◌≤◌, List, [], ◌∷◌, ◌++◌, Contains}
use Rattle.fol.specs.declared.operators.Constant.{Constant}
use Rattle.fol.specs.declared.operators.Constant.TheVariants.{Wide}
use Rattle.fol.specs.FormulaData.{TermData, VarTerm, ConstantTerm, UnaryTerm, BinaryTerm, TernaryTerm, PackTerm, FieldTerm, SetFieldTerm, IfTerm, TermsData, NoTerms, MoreTerms, TriggersData, NoTriggers, MoreTriggers, FormulaData, CompareFormula, IsFormula, HoldsFormula, NotFormula, JoinFormula, ConnectFormula, QuantifyFormula, FormulasData, NoFormulas, MoreFormulas}

-- ---- the numerals that are no `Num`, in reading order

abbrev pub numerals_of_constant : Constant → List ℕ
numerals_of_constant (Wide u) = u ∷ []
numerals_of_constant _ = []

abbrev mutual
  pub numerals_of_term : TermData → List ℕ
  numerals_of_term (VarTerm n) = []
  numerals_of_term (ConstantTerm c) = numerals_of_constant c
  numerals_of_term (UnaryTerm o t) = numerals_of_term t
  numerals_of_term (BinaryTerm o t u) = numerals_of_term t ++ numerals_of_term u
  numerals_of_term (TernaryTerm o t u v) = numerals_of_term t ++ (numerals_of_term u ++ numerals_of_term v)
  numerals_of_term (PackTerm a ts) = numerals_of_terms ts
  numerals_of_term (FieldTerm a k t) = numerals_of_term t
  numerals_of_term (SetFieldTerm a k t u) = numerals_of_term t ++ numerals_of_term u
  numerals_of_term (IfTerm p t u) = numerals_of p ++ (numerals_of_term t ++ numerals_of_term u)

  pub numerals_of_terms : TermsData → List ℕ
  numerals_of_terms NoTerms = []
  numerals_of_terms (MoreTerms t ts) = numerals_of_term t ++ numerals_of_terms ts

  pub numerals_of_triggers : TriggersData → List ℕ
  numerals_of_triggers NoTriggers = []
  numerals_of_triggers (MoreTriggers t ts) = numerals_of_terms t ++ numerals_of_triggers ts

  pub numerals_of : FormulaData → List ℕ
  numerals_of (CompareFormula o t u) = numerals_of_term t ++ numerals_of_term u
  numerals_of (IsFormula a t) = numerals_of_term t
  numerals_of (HoldsFormula t) = numerals_of_term t
  numerals_of (NotFormula p) = numerals_of p
  numerals_of (JoinFormula o ps) = numerals_of_formulas ps
  numerals_of (ConnectFormula o p q) = numerals_of p ++ numerals_of q
  numerals_of (QuantifyFormula o n ts p) = numerals_of_triggers ts ++ numerals_of p

  pub numerals_of_formulas : FormulasData → List ℕ
  numerals_of_formulas NoFormulas = []
  numerals_of_formulas (MoreFormulas p ps) = numerals_of p ++ numerals_of_formulas ps

-- ---- those that are too great

pub record IsTooGreat (u : ℕ) : Type 0 where
  pub great : 2 ^ 127 ≤ u
  pub other : u ≢ 2 ^ 128 - 1

pub record IsWideAmong (us : List ℕ) (u : ℕ) : Type 0 where
  pub among : Contains us u
  pub too_great : IsTooGreat u

pub record HasNoWide (us : List ℕ) : Type 0 where
  pub none : (u : ℕ) → Contains us u → IsTooGreat u → ⊥
