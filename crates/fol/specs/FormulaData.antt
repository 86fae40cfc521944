-- Terms and formulas as pure data, as contracts see them: many-sorted first-order logic with integers, arrays
-- ("memories"), sequences ("vectors") and tuples with names ("structs"), in one sort of values. There is a constructor
-- for each arity, with an operator.
use Rattle.std.specs.Prelude.{◌≡◌, ℕ, ◌+◌, ℤ, List, [], ◌∷◌, refl}
use Rattle.std.proofs.Common.{ap, sym, ◌∙◌}
use Rattle.base.specs.TypeData.{TypeData}
use Rattle.base.specs.declared.types.Width.{Width}
use Rattle.fol.specs.declared.operators.Constant.{Constant}
use Rattle.fol.specs.declared.operators.Constant.TheVariants.{Num, Max, True, False, Nothing, Blank, Empty, Wide}
use Rattle.fol.specs.declared.operators.Unary.{Unary}
use Rattle.fol.specs.declared.operators.Unary.TheVariants.{Len, Pop}
use Rattle.fol.specs.declared.operators.Binary.{Binary}
use Rattle.fol.specs.declared.operators.Binary.TheVariants.{Add, Sub, Mul, Div, Mod, And, Or, Xor, Shl, Shr, Select, At, Push}
use Rattle.fol.specs.declared.operators.Ternary.{Ternary}
use Rattle.fol.specs.declared.operators.Ternary.TheVariants.{Store, Set}
use Rattle.fol.specs.declared.operators.Comparison.{Comparison}
use Rattle.fol.specs.declared.operators.Comparison.TheVariants.{Eq, Le}
use Rattle.fol.specs.declared.operators.Junction.{Junction}
use Rattle.fol.specs.declared.operators.Junction.TheVariants.{AllOf, AnyOf}
use Rattle.fol.specs.declared.operators.Connective.{Connective}
use Rattle.fol.specs.declared.operators.Connective.TheVariants.{Implies, Iff}
use Rattle.fol.specs.declared.operators.Quantifier.{Quantifier}
use Rattle.fol.specs.declared.operators.Quantifier.TheVariants.{ForAll, Exists}

mutual
  pub data TermData : Type 0 where
    VarTerm : ℕ → TermData
    ConstantTerm : Constant → TermData
    UnaryTerm : Unary → TermData → TermData
    BinaryTerm : Binary → TermData → TermData → TermData
    TernaryTerm : Ternary → TermData → TermData → TermData → TermData
    PackTerm : TypeData → TermsData → TermData
    FieldTerm : TypeData → ℕ → TermData → TermData
    SetFieldTerm : TypeData → ℕ → TermData → TermData → TermData
    IfTerm : FormulaData → TermData → TermData → TermData

  pub data TermsData : Type 0 where
    NoTerms : TermsData
    MoreTerms : TermData → TermsData → TermsData

  pub data TriggersData : Type 0 where
    NoTriggers : TriggersData
    MoreTriggers : TermsData → TriggersData → TriggersData

  pub data FormulaData : Type 0 where
    CompareFormula : Comparison → TermData → TermData → FormulaData
    IsFormula : TypeData → TermData → FormulaData
    HoldsFormula : TermData → FormulaData
    NotFormula : FormulaData → FormulaData
    JoinFormula : Junction → FormulasData → FormulaData
    ConnectFormula : Connective → FormulaData → FormulaData → FormulaData
    QuantifyFormula : Quantifier → ℕ → TriggersData → FormulaData → FormulaData

  pub data FormulasData : Type 0 where
    NoFormulas : FormulasData
    MoreFormulas : FormulaData → FormulasData → FormulasData

-- ---- the term or formula of each operator

abbrev pub NumTerm : ℤ → TermData
NumTerm i = ConstantTerm (Num i)

abbrev pub MaxTerm : TermData
MaxTerm = ConstantTerm Max

abbrev pub TrueTerm : TermData
TrueTerm = ConstantTerm True

abbrev pub FalseTerm : TermData
FalseTerm = ConstantTerm False

abbrev pub NothingTerm : TermData
NothingTerm = ConstantTerm Nothing

abbrev pub BlankTerm : TermData
BlankTerm = ConstantTerm Blank

abbrev pub EmptyTerm : TermData
EmptyTerm = ConstantTerm Empty

abbrev pub WideTerm : ℕ → TermData
WideTerm u = ConstantTerm (Wide u)

abbrev pub LenTerm : TermData → TermData
LenTerm t = UnaryTerm Len t

abbrev pub PopTerm : TermData → TermData
PopTerm t = UnaryTerm Pop t

abbrev pub AddTerm : TermData → TermData → TermData
AddTerm t u = BinaryTerm Add t u

abbrev pub SubTerm : TermData → TermData → TermData
SubTerm t u = BinaryTerm Sub t u

abbrev pub MulTerm : TermData → TermData → TermData
MulTerm t u = BinaryTerm Mul t u

abbrev pub DivTerm : TermData → TermData → TermData
DivTerm t u = BinaryTerm Div t u

abbrev pub ModTerm : TermData → TermData → TermData
ModTerm t u = BinaryTerm Mod t u

abbrev pub AndTerm : TermData → TermData → TermData
AndTerm t u = BinaryTerm And t u

abbrev pub OrTerm : TermData → TermData → TermData
OrTerm t u = BinaryTerm Or t u

abbrev pub XorTerm : TermData → TermData → TermData
XorTerm t u = BinaryTerm Xor t u

abbrev pub SelectTerm : TermData → TermData → TermData
SelectTerm t u = BinaryTerm Select t u

abbrev pub AtTerm : TermData → TermData → TermData
AtTerm t u = BinaryTerm At t u

abbrev pub PushTerm : TermData → TermData → TermData
PushTerm t u = BinaryTerm Push t u

abbrev pub ShlTerm : Width → TermData → TermData → TermData
ShlTerm w t u = BinaryTerm (Shl w) t u

abbrev pub ShrTerm : Width → TermData → TermData → TermData
ShrTerm w t u = BinaryTerm (Shr w) t u

abbrev pub StoreTerm : TermData → TermData → TermData → TermData
StoreTerm t u v = TernaryTerm Store t u v

abbrev pub SetTerm : TermData → TermData → TermData → TermData
SetTerm t u v = TernaryTerm Set t u v

abbrev pub EqFormula : TermData → TermData → FormulaData
EqFormula t u = CompareFormula Eq t u

abbrev pub LeFormula : TermData → TermData → FormulaData
LeFormula t u = CompareFormula Le t u

abbrev pub AllOfFormula : FormulasData → FormulaData
AllOfFormula ps = JoinFormula AllOf ps

abbrev pub AnyOfFormula : FormulasData → FormulaData
AnyOfFormula ps = JoinFormula AnyOf ps

abbrev pub ImpliesFormula : FormulaData → FormulaData → FormulaData
ImpliesFormula p q = ConnectFormula Implies p q

abbrev pub IffFormula : FormulaData → FormulaData → FormulaData
IffFormula p q = ConnectFormula Iff p q

abbrev pub ForAllFormula : ℕ → TriggersData → FormulaData → FormulaData
ForAllFormula n ts p = QuantifyFormula ForAll n ts p

abbrev pub ExistsFormula : ℕ → TriggersData → FormulaData → FormulaData
ExistsFormula n ts p = QuantifyFormula Exists n ts p

-- ---- lists as the lists above, and back

abbrev pub terms_of : List TermData → TermsData
terms_of [] = NoTerms
terms_of (t ∷ ts) = MoreTerms t (terms_of ts)

abbrev pub list_of_terms : TermsData → List TermData
list_of_terms NoTerms = []
list_of_terms (MoreTerms t ts) = t ∷ list_of_terms ts

pub list_of_terms-terms_of : (ts : List TermData) → list_of_terms (terms_of ts) ≡ ts
list_of_terms-terms_of [] = refl
list_of_terms-terms_of (t ∷ ts) = ap (λ us. t ∷ us) (list_of_terms-terms_of ts)

pub terms_of_injective : (xs ys : List TermData) → terms_of xs ≡ terms_of ys → xs ≡ ys
terms_of_injective xs ys e = sym (list_of_terms-terms_of xs) ∙ ap list_of_terms e ∙ list_of_terms-terms_of ys

pub terms_of-list_of_terms : (ts : TermsData) → terms_of (list_of_terms ts) ≡ ts
terms_of-list_of_terms NoTerms = refl
terms_of-list_of_terms (MoreTerms t ts) = ap (MoreTerms t) (terms_of-list_of_terms ts)

abbrev pub triggers_of : List TermsData → TriggersData
triggers_of [] = NoTriggers
triggers_of (t ∷ ts) = MoreTriggers t (triggers_of ts)

abbrev pub list_of_triggers : TriggersData → List TermsData
list_of_triggers NoTriggers = []
list_of_triggers (MoreTriggers t ts) = t ∷ list_of_triggers ts

pub list_of_triggers-triggers_of : (ts : List TermsData) → list_of_triggers (triggers_of ts) ≡ ts
list_of_triggers-triggers_of [] = refl
list_of_triggers-triggers_of (t ∷ ts) = ap (λ us. t ∷ us) (list_of_triggers-triggers_of ts)

pub triggers_of_injective : (xs ys : List TermsData) → triggers_of xs ≡ triggers_of ys → xs ≡ ys
triggers_of_injective xs ys e = sym (list_of_triggers-triggers_of xs) ∙ ap list_of_triggers e ∙ list_of_triggers-triggers_of ys

pub triggers_of-list_of_triggers : (ts : TriggersData) → triggers_of (list_of_triggers ts) ≡ ts
triggers_of-list_of_triggers NoTriggers = refl
triggers_of-list_of_triggers (MoreTriggers t ts) = ap (MoreTriggers t) (triggers_of-list_of_triggers ts)

abbrev pub formulas_of : List FormulaData → FormulasData
formulas_of [] = NoFormulas
formulas_of (p ∷ ps) = MoreFormulas p (formulas_of ps)

abbrev pub list_of_formulas : FormulasData → List FormulaData
list_of_formulas NoFormulas = []
list_of_formulas (MoreFormulas p ps) = p ∷ list_of_formulas ps

pub list_of_formulas-formulas_of : (ps : List FormulaData) → list_of_formulas (formulas_of ps) ≡ ps
list_of_formulas-formulas_of [] = refl
list_of_formulas-formulas_of (p ∷ ps) = ap (λ qs. p ∷ qs) (list_of_formulas-formulas_of ps)

pub formulas_of_injective : (xs ys : List FormulaData) → formulas_of xs ≡ formulas_of ys → xs ≡ ys
formulas_of_injective xs ys e = sym (list_of_formulas-formulas_of xs) ∙ ap list_of_formulas e ∙ list_of_formulas-formulas_of ys

pub formulas_of-list_of_formulas : (ps : FormulasData) → formulas_of (list_of_formulas ps) ≡ ps
formulas_of-list_of_formulas NoFormulas = refl
formulas_of-list_of_formulas (MoreFormulas p ps) = ap (MoreFormulas p) (formulas_of-list_of_formulas ps)

-- ---- the number of nodes, each cell of a list as one more

abbrev mutual
  pub term_size : TermData → ℕ
  term_size (VarTerm n) = 1
  term_size (ConstantTerm c) = 1
  term_size (UnaryTerm o t) = 1 + term_size t
  term_size (BinaryTerm o t u) = 1 + (term_size t + term_size u)
  term_size (TernaryTerm o t u v) = 1 + (term_size t + term_size u + term_size v)
  term_size (PackTerm a ts) = 1 + terms_size ts
  term_size (FieldTerm a k t) = 1 + term_size t
  term_size (SetFieldTerm a k t u) = 1 + (term_size t + term_size u)
  term_size (IfTerm p t u) = 1 + (formula_size p + term_size t + term_size u)

  pub terms_size : TermsData → ℕ
  terms_size NoTerms = 1
  terms_size (MoreTerms t ts) = 1 + (term_size t + terms_size ts)

  pub triggers_size : TriggersData → ℕ
  triggers_size NoTriggers = 1
  triggers_size (MoreTriggers t ts) = 1 + (terms_size t + triggers_size ts)

  pub formula_size : FormulaData → ℕ
  formula_size (CompareFormula o t u) = 1 + (term_size t + term_size u)
  formula_size (IsFormula a t) = 1 + term_size t
  formula_size (HoldsFormula t) = 1 + term_size t
  formula_size (NotFormula p) = 1 + formula_size p
  formula_size (JoinFormula o ps) = 1 + formulas_size ps
  formula_size (ConnectFormula o p q) = 1 + (formula_size p + formula_size q)
  formula_size (QuantifyFormula o n ts p) = 1 + (triggers_size ts + formula_size p)

  pub formulas_size : FormulasData → ℕ
  formulas_size NoFormulas = 1
  formulas_size (MoreFormulas p ps) = 1 + (formula_size p + formulas_size ps)
