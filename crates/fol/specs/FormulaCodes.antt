-- The codes by which the logic stores terms and formulas: each as a tree of numbers, and back.
use base.Stored.{Gv, gnil, gnum, gcons, num}
use denote.Struct.Codes.{itself}
use Rattle.std.specs.Prelude.{◌≡◌, ℕ, [], ◌∷◌, refl}
use Rattle.std.specs.Coded.{Coded, code_by}
use Rattle.std.proofs.Common.{ap}
use Rattle.base.specs.Codes.{pick}
use Rattle.base.specs.TypeData.{type_code, type_back, type_back-code}
use Rattle.fol.specs.OperatorCodes.{head, tail, tree, constant_code, constant_back, constant_back-code, unary_code, unary_back, unary_back-code, binary_code, binary_back, binary_back-code, ternary_code, ternary_back, ternary_back-code, comparison_code, comparison_back, comparison_back-code, junction_code, junction_back, junction_back-code, connective_code, connective_back, connective_back-code, quantifier_code, quantifier_back, quantifier_back-code}
use Rattle.fol.specs.FormulaData.{TermData, VarTerm, ConstantTerm, UnaryTerm, BinaryTerm, TernaryTerm, NothingTerm, PackTerm, FieldTerm, SetFieldTerm, IfTerm, TermsData, NoTerms, MoreTerms, TriggersData, NoTriggers, MoreTriggers, FormulaData, CompareFormula, IsFormula, HoldsFormula, NotFormula, JoinFormula, ConnectFormula, QuantifyFormula, AllOfFormula, FormulasData, NoFormulas, MoreFormulas}

abbrev mutual
  pub term_code : TermData → Gv
  term_code (VarTerm n) = tree 0 (gnum n) gnil gnil
  term_code (ConstantTerm c) = tree 1 (constant_code c) gnil gnil
  term_code (UnaryTerm o t) = tree 2 (unary_code o) (term_code t) gnil
  term_code (BinaryTerm o t u) = tree 3 (binary_code o) (term_code t) (term_code u)
  term_code (TernaryTerm o t u v) = tree 4 (gcons (ternary_code o) (term_code t)) (term_code u) (term_code v)
  term_code (PackTerm a ts) = tree 5 (type_code a) (terms_code ts) gnil
  term_code (FieldTerm a k t) = tree 6 (type_code a) (gnum k) (term_code t)
  term_code (SetFieldTerm a k t u) = tree 7 (gcons (type_code a) (gnum k)) (term_code t) (term_code u)
  term_code (IfTerm p t u) = tree 8 (formula_code p) (term_code t) (term_code u)

  pub terms_code : TermsData → Gv
  terms_code NoTerms = gnil
  terms_code (MoreTerms t ts) = gcons (term_code t) (terms_code ts)

  pub triggers_code : TriggersData → Gv
  triggers_code NoTriggers = gnil
  triggers_code (MoreTriggers t ts) = gcons (terms_code t) (triggers_code ts)

  pub formula_code : FormulaData → Gv
  formula_code (CompareFormula o t u) = tree 0 (comparison_code o) (term_code t) (term_code u)
  formula_code (IsFormula a t) = tree 1 (type_code a) (term_code t) gnil
  formula_code (HoldsFormula t) = tree 2 (term_code t) gnil gnil
  formula_code (NotFormula p) = tree 3 (formula_code p) gnil gnil
  formula_code (JoinFormula o ps) = tree 4 (junction_code o) (formulas_code ps) gnil
  formula_code (ConnectFormula o p q) = tree 5 (connective_code o) (formula_code p) (formula_code q)
  formula_code (QuantifyFormula o n ts p) = tree 6 (gcons (quantifier_code o) (gnum n)) (triggers_code ts) (formula_code p)

  pub formulas_code : FormulasData → Gv
  formulas_code NoFormulas = gnil
  formulas_code (MoreFormulas p ps) = gcons (formula_code p) (formulas_code ps)

abbrev mutual
  pub term_back : Gv → TermData
  term_back (gcons (gnum n) (gcons a (gcons b c))) =
      pick n NothingTerm (VarTerm (num a) ∷ ConstantTerm (constant_back a) ∷ UnaryTerm (unary_back a) (term_back b) ∷ BinaryTerm (binary_back a) (term_back b) (term_back c) ∷ ternary_term_back a (term_back b) (term_back c) ∷ PackTerm (type_back a) (terms_back b) ∷ FieldTerm (type_back a) (num b) (term_back c) ∷ SetFieldTerm (type_back (head a)) (num (tail a)) (term_back b) (term_back c) ∷ IfTerm (formula_back a) (term_back b) (term_back c) ∷ [])
  term_back _ = NothingTerm

  ternary_term_back : Gv → TermData → TermData → TermData
  ternary_term_back (gcons o a) u v = TernaryTerm (ternary_back o) (term_back a) u v
  ternary_term_back _ u v = NothingTerm

  pub terms_back : Gv → TermsData
  terms_back gnil = NoTerms
  terms_back (gnum n) = NoTerms
  terms_back (gcons a b) = MoreTerms (term_back a) (terms_back b)

  pub triggers_back : Gv → TriggersData
  triggers_back gnil = NoTriggers
  triggers_back (gnum n) = NoTriggers
  triggers_back (gcons a b) = MoreTriggers (terms_back a) (triggers_back b)

  pub formula_back : Gv → FormulaData
  formula_back (gcons (gnum n) (gcons a (gcons b c))) =
      pick n (AllOfFormula NoFormulas) (CompareFormula (comparison_back a) (term_back b) (term_back c) ∷ IsFormula (type_back a) (term_back b) ∷ HoldsFormula (term_back a) ∷ NotFormula (formula_back a) ∷ JoinFormula (junction_back a) (formulas_back b) ∷ ConnectFormula (connective_back a) (formula_back b) (formula_back c) ∷ QuantifyFormula (quantifier_back (head a)) (num (tail a)) (triggers_back b) (formula_back c) ∷ [])
  formula_back _ = AllOfFormula NoFormulas

  pub formulas_back : Gv → FormulasData
  formulas_back gnil = NoFormulas
  formulas_back (gnum n) = NoFormulas
  formulas_back (gcons a b) = MoreFormulas (formula_back a) (formulas_back b)

mutual
  pub term_back-code : (t : TermData) → term_back (term_code t) ≡ t
  term_back-code (VarTerm n) = refl
  term_back-code (ConstantTerm c) = ap ConstantTerm (constant_back-code c)
  term_back-code (UnaryTerm o t) = λ i. UnaryTerm (unary_back-code o i) (term_back-code t i)
  term_back-code (BinaryTerm o t u) = λ i. BinaryTerm (binary_back-code o i) (term_back-code t i) (term_back-code u i)
  term_back-code (TernaryTerm o t u v) = λ i. TernaryTerm (ternary_back-code o i) (term_back-code t i) (term_back-code u i) (term_back-code v i)
  term_back-code (PackTerm a ts) = λ i. PackTerm (type_back-code a i) (terms_back-code ts i)
  term_back-code (FieldTerm a k t) = λ i. FieldTerm (type_back-code a i) k (term_back-code t i)
  term_back-code (SetFieldTerm a k t u) = λ i. SetFieldTerm (type_back-code a i) k (term_back-code t i) (term_back-code u i)
  term_back-code (IfTerm p t u) = λ i. IfTerm (formula_back-code p i) (term_back-code t i) (term_back-code u i)

  pub terms_back-code : (ts : TermsData) → terms_back (terms_code ts) ≡ ts
  terms_back-code NoTerms = refl
  terms_back-code (MoreTerms t ts) = λ i. MoreTerms (term_back-code t i) (terms_back-code ts i)

  pub triggers_back-code : (ts : TriggersData) → triggers_back (triggers_code ts) ≡ ts
  triggers_back-code NoTriggers = refl
  triggers_back-code (MoreTriggers t ts) = λ i. MoreTriggers (terms_back-code t i) (triggers_back-code ts i)

  pub formula_back-code : (p : FormulaData) → formula_back (formula_code p) ≡ p
  formula_back-code (CompareFormula o t u) = λ i. CompareFormula (comparison_back-code o i) (term_back-code t i) (term_back-code u i)
  formula_back-code (IsFormula a t) = λ i. IsFormula (type_back-code a i) (term_back-code t i)
  formula_back-code (HoldsFormula t) = λ i. HoldsFormula (term_back-code t i)
  formula_back-code (NotFormula p) = λ i. NotFormula (formula_back-code p i)
  formula_back-code (JoinFormula o ps) = λ i. JoinFormula (junction_back-code o i) (formulas_back-code ps i)
  formula_back-code (ConnectFormula o p q) = λ i. ConnectFormula (connective_back-code o i) (formula_back-code p i) (formula_back-code q i)
  formula_back-code (QuantifyFormula o n ts p) = λ i. QuantifyFormula (quantifier_back-code o i) n (triggers_back-code ts i) (formula_back-code p i)

  pub formulas_back-code : (ps : FormulasData) → formulas_back (formulas_code ps) ≡ ps
  formulas_back-code NoFormulas = refl
  formulas_back-code (MoreFormulas p ps) = λ i. MoreFormulas (formula_back-code p i) (formulas_back-code ps i)

abbrev pub coded_term : Coded TermData
coded_term = code_by Gv itself term_code term_back term_back-code

abbrev pub coded_terms : Coded TermsData
coded_terms = code_by Gv itself terms_code terms_back terms_back-code

abbrev pub coded_triggers : Coded TriggersData
coded_triggers = code_by Gv itself triggers_code triggers_back triggers_back-code

abbrev pub coded_formula : Coded FormulaData
coded_formula = code_by Gv itself formula_code formula_back formula_back-code

abbrev pub coded_formulas : Coded FormulasData
coded_formulas = code_by Gv itself formulas_code formulas_back formulas_back-code
