-- The substitution of a variable for a variable does not change the depth of a formula.
use Rattle.std.proofs.Common.{◌≡◌, ℕ, ◌+◌, Bool, true, false, cond, eqb, List, [], ◌∷◌, refl, sym, ap, ◌∙◌}
use Rattle.std.specs.Prelude.{max}
use Rattle.fol.specs.Depth.{type_depth, term_depth, terms_depth, triggers_depth, formula_depth, formulas_depth}
use Rattle.fol.specs.FormulaData.{TermData, VarTerm, ConstantTerm, UnaryTerm, BinaryTerm, TernaryTerm, PackTerm, FieldTerm, SetFieldTerm, IfTerm, TermsData, NoTerms, MoreTerms, TriggersData, NoTriggers, MoreTriggers, FormulaData, CompareFormula, IsFormula, HoldsFormula, NotFormula, JoinFormula, ConnectFormula, QuantifyFormula, FormulasData, NoFormulas, MoreFormulas}
use Rattle.substitution.specs.Free.{free_in_term}
use Rattle.substitution.specs.Instances.{Either, StandsFor, IsTermInstance, AreTermInstances, AreTriggerInstances, IsInstanceUnder, AreInstances, IsInstance}

-- a variable is replaced by a variable
var_depth : (b : Bool) (n v : ℕ) → term_depth (cond b (VarTerm v) (VarTerm n)) ≡ 1
var_depth true n v = refl
var_depth false n v = refl

either_depth : (b : Bool) (k : ℕ) (u : TermData) (P : Type 0) → (P → term_depth u ≡ 1) → Either b (u ≡ VarTerm k) P → term_depth u ≡ 1
either_depth true k u P f h = ap term_depth h
either_depth false k u P f h = f h

stands_depth : (bs : List (ℕ × ℕ)) (x v n : ℕ) (u : TermData) → StandsFor bs x (VarTerm v) n u → term_depth u ≡ 1
stands_depth [] x v n u h = ap term_depth h ∙ var_depth (eqb n x) n v
stands_depth (b ∷ bs) x v n u h =
    either_depth (eqb n b.0) b.1 u ((free_in_term b.1 u ≡ false) × StandsFor bs x (VarTerm v) n u) (λ g. stands_depth bs x v n u g.1) h

mutual
  term_same : (bs : List (ℕ × ℕ)) (x v : ℕ) (a c : TermData) → IsTermInstance bs x (VarTerm v) a c → term_depth c ≡ term_depth a
  term_same bs x v (VarTerm n) u h = stands_depth bs x v n u h
  term_same bs x v (ConstantTerm c) (ConstantTerm d) h = refl
  term_same bs x v (UnaryTerm o a) (UnaryTerm p c) h = ap (λ n. 1 + n) (term_same bs x v a c h.1)
  term_same bs x v (BinaryTerm o a b) (BinaryTerm p c d) h = λ i. 1 + max (term_same bs x v a c h.1 i) (term_same bs x v b d h.2 i)
  term_same bs x v (TernaryTerm o a b e) (TernaryTerm p c d f) h = λ i. 1 + max (term_same bs x v a c h.1 i) (max (term_same bs x v b d h.2 i) (term_same bs x v e f h.3 i))
  term_same bs x v (PackTerm s ts) (PackTerm r us) h = λ i. 1 + max (sym (ap type_depth h.0) i) (terms_same bs x v ts us h.1 i)
  term_same bs x v (FieldTerm s k a) (FieldTerm r l c) h = λ i. 1 + max (sym (ap type_depth h.1) i) (term_same bs x v a c h.2 i)
  term_same bs x v (SetFieldTerm s k a b) (SetFieldTerm r l c d) h = λ i. 1 + max (sym (ap type_depth h.1) i) (max (term_same bs x v a c h.2 i) (term_same bs x v b d h.3 i))
  term_same bs x v (IfTerm p a b) (IfTerm q c d) h = λ i. 1 + max (formula_same bs x v p q h.0 i) (max (term_same bs x v a c h.1 i) (term_same bs x v b d h.2 i))
  term_same bs x v _ _ h = absurd h

  terms_same : (bs : List (ℕ × ℕ)) (x v : ℕ) (as' cs : TermsData) → AreTermInstances bs x (VarTerm v) as' cs → terms_depth cs ≡ terms_depth as'
  terms_same bs x v NoTerms NoTerms h = refl
  terms_same bs x v (MoreTerms a as') (MoreTerms c cs) h = λ i. max (term_same bs x v a c h.0 i) (terms_same bs x v as' cs h.1 i)
  terms_same bs x v _ _ h = absurd h

  triggers_same : (bs : List (ℕ × ℕ)) (x v : ℕ) (as' cs : TriggersData) → AreTriggerInstances bs x (VarTerm v) as' cs → triggers_depth cs ≡ triggers_depth as'
  triggers_same bs x v NoTriggers NoTriggers h = refl
  triggers_same bs x v (MoreTriggers a as') (MoreTriggers c cs) h = λ i. max (terms_same bs x v a c h.0 i) (triggers_same bs x v as' cs h.1 i)
  triggers_same bs x v _ _ h = absurd h

  formula_same : (bs : List (ℕ × ℕ)) (x v : ℕ) (p q : FormulaData) → IsInstanceUnder bs x (VarTerm v) p q → formula_depth q ≡ formula_depth p
  formula_same bs x v (CompareFormula o a b) (CompareFormula p c d) h = λ i. 1 + max (term_same bs x v a c h.1 i) (term_same bs x v b d h.2 i)
  formula_same bs x v (IsFormula s a) (IsFormula r c) h = λ i. 1 + max (sym (ap type_depth h.0) i) (term_same bs x v a c h.1 i)
  formula_same bs x v (HoldsFormula a) (HoldsFormula c) h = ap (λ n. 1 + n) (term_same bs x v a c h)
  formula_same bs x v (NotFormula p) (NotFormula q) h = ap (λ n. 1 + n) (formula_same bs x v p q h)
  formula_same bs x v (JoinFormula o ps) (JoinFormula r qs) h = ap (λ n. 1 + n) (all_same bs x v ps qs h.1)
  formula_same bs x v (ConnectFormula o p a) (ConnectFormula r q c) h = λ i. 1 + max (formula_same bs x v p q h.1 i) (formula_same bs x v a c h.2 i)
  formula_same bs x v (QuantifyFormula o n ts p) (QuantifyFormula r k us q) h = λ i. 1 + max (triggers_same ((n, k) ∷ bs) x v ts us h.1 i) (formula_same ((n, k) ∷ bs) x v p q h.2 i)
  formula_same bs x v _ _ h = absurd h

  all_same : (bs : List (ℕ × ℕ)) (x v : ℕ) (ps qs : FormulasData) → AreInstances bs x (VarTerm v) ps qs → formulas_depth qs ≡ formulas_depth ps
  all_same bs x v NoFormulas NoFormulas h = refl
  all_same bs x v (MoreFormulas p ps) (MoreFormulas q qs) h = λ i. max (formula_same bs x v p q h.0 i) (all_same bs x v ps qs h.1 i)
  all_same bs x v _ _ h = absurd h

pub instance_depth : (x v : ℕ) (p q : FormulaData) → IsInstance x (VarTerm v) p q → formula_depth q ≡ formula_depth p
instance_depth x v p q h = formula_same [] x v p q h
