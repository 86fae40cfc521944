-- Substitution, up to alpha equivalence: a formula in which a term replaces each free occurrence of a variable, and in
-- which no variable of the term is captured (A. Church, Introduction to Mathematical Logic, section 35; two formulas
-- are alpha equivalent if they differ only in the numbers of bound variables).
use Rattle.std.specs.Prelude.{◌≡◌, ℕ, Bool, true, false, ◌==◌, List, [], ◌∷◌, if◌then◌else◌}
use Rattle.fol.specs.FormulaData.{TermData, VarTerm, ConstantTerm, UnaryTerm, BinaryTerm, TernaryTerm, PackTerm, FieldTerm, SetFieldTerm, IfTerm, TermsData, NoTerms, MoreTerms, TriggersData, NoTriggers, MoreTriggers, FormulaData, CompareFormula, IsFormula, HoldsFormula, NotFormula, JoinFormula, ConnectFormula, QuantifyFormula, FormulasData, NoFormulas, MoreFormulas}
use Rattle.fol.specs.Truth.{Interpretation, Assignment, set_var, value_of, truth_of}
use Rattle.substitution.specs.Free.{free_in_term}
use Rattle.substitution.specs.declared.binders.Binders.{Binders, Top, Inside'}

-- the binders around an occurrence, innermost first: the number that each binds in the body, and the one in the
-- instance
abbrev pub binders_of : Binders → List (ℕ × ℕ)
binders_of Top = []
binders_of (Inside' at outer from to) = (from, to) ∷ binders_of outer

abbrev pub Either : Bool → Type 0 → Type 0 → Type 0
Either true P Q = P
Either false P Q = Q

-- the term u replaces the variable n under these binders, in the substitution of t for x: if the innermost binder
-- binds n, u is the variable of that binder in the instance; otherwise that variable is not free in u, and the outer
-- binders decide
abbrev pub StandsFor : List (ℕ × ℕ) → ℕ → TermData → ℕ → TermData → Type 0
StandsFor [] x t n u = u ≡ (if n == x then t else VarTerm n)
StandsFor (b ∷ bs) x t n u = Either (n == b.0) (u ≡ VarTerm b.1) ((free_in_term b.1 u ≡ false) × StandsFor bs x t n u)

abbrev mutual
  pub IsTermInstance : List (ℕ × ℕ) → ℕ → TermData → TermData → TermData → Type 0
  IsTermInstance bs x t (VarTerm n) u = StandsFor bs x t n u
  IsTermInstance bs x t (ConstantTerm c) (ConstantTerm d) = c ≡ d
  IsTermInstance bs x t (UnaryTerm o a) (UnaryTerm p c) = (o ≡ p) × IsTermInstance bs x t a c
  IsTermInstance bs x t (BinaryTerm o a b) (BinaryTerm p c d) =
      (o ≡ p) × IsTermInstance bs x t a c × IsTermInstance bs x t b d
  IsTermInstance bs x t (TernaryTerm o a b e) (TernaryTerm p c d f) =
      (o ≡ p) × IsTermInstance bs x t a c × IsTermInstance bs x t b d × IsTermInstance bs x t e f
  IsTermInstance bs x t (PackTerm s ts) (PackTerm r us) = (s ≡ r) × AreTermInstances bs x t ts us
  IsTermInstance bs x t (FieldTerm s k a) (FieldTerm r l c) = (k ≡ l) × (s ≡ r) × IsTermInstance bs x t a c
  IsTermInstance bs x t (SetFieldTerm s k a b) (SetFieldTerm r l c d) =
      (k ≡ l) × (s ≡ r) × IsTermInstance bs x t a c × IsTermInstance bs x t b d
  IsTermInstance bs x t (IfTerm p a b) (IfTerm q c d) =
      IsInstanceUnder bs x t p q × IsTermInstance bs x t a c × IsTermInstance bs x t b d
  IsTermInstance bs x t _ _ = ⊥

  pub AreTermInstances : List (ℕ × ℕ) → ℕ → TermData → TermsData → TermsData → Type 0
  AreTermInstances bs x t NoTerms NoTerms = Unit {0}
  AreTermInstances bs x t (MoreTerms a as') (MoreTerms c cs) = IsTermInstance bs x t a c × AreTermInstances bs x t as' cs
  AreTermInstances bs x t _ _ = ⊥

  pub AreTriggerInstances : List (ℕ × ℕ) → ℕ → TermData → TriggersData → TriggersData → Type 0
  AreTriggerInstances bs x t NoTriggers NoTriggers = Unit {0}
  AreTriggerInstances bs x t (MoreTriggers a as') (MoreTriggers c cs) =
      AreTermInstances bs x t a c × AreTriggerInstances bs x t as' cs
  AreTriggerInstances bs x t _ _ = ⊥

  pub IsInstanceUnder : List (ℕ × ℕ) → ℕ → TermData → FormulaData → FormulaData → Type 0
  IsInstanceUnder bs x t (CompareFormula o a b) (CompareFormula p c d) =
      (o ≡ p) × IsTermInstance bs x t a c × IsTermInstance bs x t b d
  IsInstanceUnder bs x t (IsFormula s a) (IsFormula r c) = (s ≡ r) × IsTermInstance bs x t a c
  IsInstanceUnder bs x t (HoldsFormula a) (HoldsFormula c) = IsTermInstance bs x t a c
  IsInstanceUnder bs x t (NotFormula p) (NotFormula q) = IsInstanceUnder bs x t p q
  IsInstanceUnder bs x t (JoinFormula o ps) (JoinFormula r qs) = (o ≡ r) × AreInstances bs x t ps qs
  IsInstanceUnder bs x t (ConnectFormula o p a) (ConnectFormula r q c) =
      (o ≡ r) × IsInstanceUnder bs x t p q × IsInstanceUnder bs x t a c
  IsInstanceUnder bs x t (QuantifyFormula o n ts p) (QuantifyFormula r k us q) =
      (o ≡ r) × AreTriggerInstances ((n, k) ∷ bs) x t ts us × IsInstanceUnder ((n, k) ∷ bs) x t p q
  IsInstanceUnder bs x t _ _ = ⊥

  pub AreInstances : List (ℕ × ℕ) → ℕ → TermData → FormulasData → FormulasData → Type 0
  AreInstances bs x t NoFormulas NoFormulas = Unit {0}
  AreInstances bs x t (MoreFormulas p ps) (MoreFormulas q qs) = IsInstanceUnder bs x t p q × AreInstances bs x t ps qs
  AreInstances bs x t _ _ = ⊥

-- q is p with t substituted for x, up to alpha equivalence
abbrev pub IsInstance : ℕ → TermData → FormulaData → FormulaData → Type 0
IsInstance x t p q = IsInstanceUnder [] x t p q

-- q is true exactly when p is true with the value of t for x
pub record IsTrueAlike (x : ℕ) (t : TermData) (p q : FormulaData) : Type 0 where
  pub truth : (m : Interpretation) (s : Assignment) → truth_of m q s ≡ truth_of m p (set_var s x (value_of m t s))
