-- Substitution of a term for a variable, where a bound variable is renamed if its number is free in the term.
use Rattle.std.specs.Prelude.{ℕ, ◌+◌, ◌==◌, List, [], ◌∷◌, if◌then◌else◌}
use Rattle.fol.specs.FormulaData.{TermData, VarTerm, ConstantTerm, UnaryTerm, BinaryTerm, TernaryTerm, PackTerm, FieldTerm, SetFieldTerm, IfTerm, TermsData, NoTerms, MoreTerms, TriggersData, NoTriggers, MoreTriggers, FormulaData, CompareFormula, IsFormula, HoldsFormula, NotFormula, JoinFormula, ConnectFormula, QuantifyFormula, FormulasData, NoFormulas, MoreFormulas}
use Rattle.substitution.specs.Free.{free_in_term}

-- the term that replaces the variable n under these binders: the variable of the innermost binder that binds n, and
-- else the substituted term if n is x
abbrev pub put_for : List (ℕ × ℕ) → ℕ → TermData → ℕ → TermData
put_for [] x t n = if n == x then t else VarTerm n
put_for (b ∷ bs) x t n = if n == b.0 then VarTerm b.1 else put_for bs x t n

-- the number of a binder in the instance: the next unused one if its own is free in the term
abbrev pub number_for : TermData → ℕ → ℕ → ℕ
number_for t next n = if free_in_term n t then next else n

abbrev mutual
  pub replaced_term : List (ℕ × ℕ) → ℕ → ℕ → TermData → TermData → TermData
  replaced_term bs next x t (VarTerm n) = put_for bs x t n
  replaced_term bs next x t (ConstantTerm c) = ConstantTerm c
  replaced_term bs next x t (UnaryTerm o a) = UnaryTerm o (replaced_term bs next x t a)
  replaced_term bs next x t (BinaryTerm o a b) = BinaryTerm o (replaced_term bs next x t a) (replaced_term bs next x t b)
  replaced_term bs next x t (TernaryTerm o a b c) =
      TernaryTerm o (replaced_term bs next x t a) (replaced_term bs next x t b) (replaced_term bs next x t c)
  replaced_term bs next x t (PackTerm s ts) = PackTerm s (replaced_terms bs next x t ts)
  replaced_term bs next x t (FieldTerm s k a) = FieldTerm s k (replaced_term bs next x t a)
  replaced_term bs next x t (SetFieldTerm s k a b) =
      SetFieldTerm s k (replaced_term bs next x t a) (replaced_term bs next x t b)
  replaced_term bs next x t (IfTerm p a b) =
      IfTerm (replaced bs next x t p) (replaced_term bs next x t a) (replaced_term bs next x t b)

  pub replaced_terms : List (ℕ × ℕ) → ℕ → ℕ → TermData → TermsData → TermsData
  replaced_terms bs next x t NoTerms = NoTerms
  replaced_terms bs next x t (MoreTerms a ts) = MoreTerms (replaced_term bs next x t a) (replaced_terms bs next x t ts)

  pub replaced_triggers : List (ℕ × ℕ) → ℕ → ℕ → TermData → TriggersData → TriggersData
  replaced_triggers bs next x t NoTriggers = NoTriggers
  replaced_triggers bs next x t (MoreTriggers a ts) =
      MoreTriggers (replaced_terms bs next x t a) (replaced_triggers bs next x t ts)

  pub replaced : List (ℕ × ℕ) → ℕ → ℕ → TermData → FormulaData → FormulaData
  replaced bs next x t (CompareFormula o a b) =
      CompareFormula o (replaced_term bs next x t a) (replaced_term bs next x t b)
  replaced bs next x t (IsFormula s a) = IsFormula s (replaced_term bs next x t a)
  replaced bs next x t (HoldsFormula a) = HoldsFormula (replaced_term bs next x t a)
  replaced bs next x t (NotFormula p) = NotFormula (replaced bs next x t p)
  replaced bs next x t (JoinFormula o ps) = JoinFormula o (replaced_all bs next x t ps)
  replaced bs next x t (ConnectFormula o p q) = ConnectFormula o (replaced bs next x t p) (replaced bs next x t q)
  replaced bs next x t (QuantifyFormula o n ts p) =
      QuantifyFormula o (number_for t next n) (replaced_triggers ((n, number_for t next n) ∷ bs) (next + 1) x t ts) (replaced ((n, number_for t next n) ∷ bs) (next + 1) x t p)

  pub replaced_all : List (ℕ × ℕ) → ℕ → ℕ → TermData → FormulasData → FormulasData
  replaced_all bs next x t NoFormulas = NoFormulas
  replaced_all bs next x t (MoreFormulas p ps) = MoreFormulas (replaced bs next x t p) (replaced_all bs next x t ps)
