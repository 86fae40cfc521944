-- Substitution of a term for the free occurrences of a variable, with bound variables unchanged; and the condition
-- that no variable of the term is captured (H. Enderton, A Mathematical Introduction to Logic, section 2.4:
-- "substitutable").
use Rattle.std.specs.Prelude.{◌≡◌, ℕ, false, ◌==◌, if◌then◌else◌}
use Rattle.fol.specs.FormulaData.{TermData, VarTerm, ConstantTerm, UnaryTerm, BinaryTerm, TernaryTerm, PackTerm, FieldTerm, SetFieldTerm, IfTerm, TermsData, NoTerms, MoreTerms, TriggersData, NoTriggers, MoreTriggers, FormulaData, CompareFormula, IsFormula, HoldsFormula, NotFormula, JoinFormula, ConnectFormula, QuantifyFormula, FormulasData, NoFormulas, MoreFormulas}
use Rattle.substitution.specs.Free.{free_in_term}
use Rattle.term_pool.specs.Items.{Item, NoItem, TermItem, TermsItem, TriggersItem, FormulaItem, FormulasItem, TypeItem, TypesItem, BytesItem}

abbrev mutual
  pub put_in_term : ℕ → TermData → TermData → TermData
  put_in_term x t (VarTerm n) = if n == x then t else VarTerm n
  put_in_term x t (ConstantTerm c) = ConstantTerm c
  put_in_term x t (UnaryTerm o a) = UnaryTerm o (put_in_term x t a)
  put_in_term x t (BinaryTerm o a b) = BinaryTerm o (put_in_term x t a) (put_in_term x t b)
  put_in_term x t (TernaryTerm o a b c) = TernaryTerm o (put_in_term x t a) (put_in_term x t b) (put_in_term x t c)
  put_in_term x t (PackTerm s ts) = PackTerm s (put_in_terms x t ts)
  put_in_term x t (FieldTerm s k a) = FieldTerm s k (put_in_term x t a)
  put_in_term x t (SetFieldTerm s k a b) = SetFieldTerm s k (put_in_term x t a) (put_in_term x t b)
  put_in_term x t (IfTerm p a b) = IfTerm (put_in x t p) (put_in_term x t a) (put_in_term x t b)

  pub put_in_terms : ℕ → TermData → TermsData → TermsData
  put_in_terms x t NoTerms = NoTerms
  put_in_terms x t (MoreTerms a ts) = MoreTerms (put_in_term x t a) (put_in_terms x t ts)

  pub put_in_triggers : ℕ → TermData → TriggersData → TriggersData
  put_in_triggers x t NoTriggers = NoTriggers
  put_in_triggers x t (MoreTriggers a ts) = MoreTriggers (put_in_terms x t a) (put_in_triggers x t ts)

  pub put_in : ℕ → TermData → FormulaData → FormulaData
  put_in x t (CompareFormula o a b) = CompareFormula o (put_in_term x t a) (put_in_term x t b)
  put_in x t (IsFormula s a) = IsFormula s (put_in_term x t a)
  put_in x t (HoldsFormula a) = HoldsFormula (put_in_term x t a)
  put_in x t (NotFormula p) = NotFormula (put_in x t p)
  put_in x t (JoinFormula o ps) = JoinFormula o (put_in_all x t ps)
  put_in x t (ConnectFormula o p q) = ConnectFormula o (put_in x t p) (put_in x t q)
  put_in x t (QuantifyFormula o n ts p) =
      if n == x then QuantifyFormula o n ts p else QuantifyFormula o n (put_in_triggers x t ts) (put_in x t p)

  pub put_in_all : ℕ → TermData → FormulasData → FormulasData
  put_in_all x t NoFormulas = NoFormulas
  put_in_all x t (MoreFormulas p ps) = MoreFormulas (put_in x t p) (put_in_all x t ps)

-- the same in an item of a pool
abbrev pub put_in_item : ℕ → TermData → Item → Item
put_in_item x t NoItem = NoItem
put_in_item x t (TermItem a) = TermItem (put_in_term x t a)
put_in_item x t (TermsItem ts) = TermsItem (put_in_terms x t ts)
put_in_item x t (TriggersItem ts) = TriggersItem (put_in_triggers x t ts)
put_in_item x t (FormulaItem p) = FormulaItem (put_in x t p)
put_in_item x t (FormulasItem ps) = FormulasItem (put_in_all x t ps)
put_in_item x t (TypeItem a) = TypeItem a
put_in_item x t (TypesItem ts) = TypesItem ts
put_in_item x t (BytesItem bs) = BytesItem bs

-- no quantifier binds a variable of the term
abbrev mutual
  pub IsClearTerm : TermData → TermData → Type 0
  IsClearTerm t (VarTerm n) = Unit {0}
  IsClearTerm t (ConstantTerm c) = Unit {0}
  IsClearTerm t (UnaryTerm o a) = IsClearTerm t a
  IsClearTerm t (BinaryTerm o a b) = IsClearTerm t a × IsClearTerm t b
  IsClearTerm t (TernaryTerm o a b c) = IsClearTerm t a × IsClearTerm t b × IsClearTerm t c
  IsClearTerm t (PackTerm s ts) = AreClearTerms t ts
  IsClearTerm t (FieldTerm s k a) = IsClearTerm t a
  IsClearTerm t (SetFieldTerm s k a b) = IsClearTerm t a × IsClearTerm t b
  IsClearTerm t (IfTerm p a b) = IsClear t p × IsClearTerm t a × IsClearTerm t b

  pub AreClearTerms : TermData → TermsData → Type 0
  AreClearTerms t NoTerms = Unit {0}
  AreClearTerms t (MoreTerms a ts) = IsClearTerm t a × AreClearTerms t ts

  pub AreClearTriggers : TermData → TriggersData → Type 0
  AreClearTriggers t NoTriggers = Unit {0}
  AreClearTriggers t (MoreTriggers a ts) = AreClearTerms t a × AreClearTriggers t ts

  pub IsClear : TermData → FormulaData → Type 0
  IsClear t (CompareFormula o a b) = IsClearTerm t a × IsClearTerm t b
  IsClear t (IsFormula s a) = IsClearTerm t a
  IsClear t (HoldsFormula a) = IsClearTerm t a
  IsClear t (NotFormula p) = IsClear t p
  IsClear t (JoinFormula o ps) = AreClear t ps
  IsClear t (ConnectFormula o p q) = IsClear t p × IsClear t q
  IsClear t (QuantifyFormula o n ts p) = (free_in_term n t ≡ false) × AreClearTriggers t ts × IsClear t p

  pub AreClear : TermData → FormulasData → Type 0
  AreClear t NoFormulas = Unit {0}
  AreClear t (MoreFormulas p ps) = IsClear t p × AreClear t ps
