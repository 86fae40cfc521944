-- All instances of a formula for a term have equal depths.
use Rattle.std.proofs.Common.{◌≡◌, ℕ, ◌+◌, Bool, true, false, cond, eqb, List, [], ◌∷◌, refl, sym, ap, ◌∙◌}
use Rattle.std.specs.Prelude.{max}
use Rattle.fol.specs.Depth.{type_depth, term_depth, terms_depth, triggers_depth, formula_depth, formulas_depth}
use Rattle.fol.specs.FormulaData.{TermData, VarTerm, ConstantTerm, UnaryTerm, BinaryTerm, TernaryTerm, PackTerm, FieldTerm, SetFieldTerm, IfTerm, TermsData, NoTerms, MoreTerms, TriggersData, NoTriggers, MoreTriggers, FormulaData, CompareFormula, IsFormula, HoldsFormula, NotFormula, JoinFormula, ConnectFormula, QuantifyFormula, FormulasData, NoFormulas, MoreFormulas}
use Rattle.substitution.specs.Free.{free_in_term}
use Rattle.substitution.specs.Instances.{Either, StandsFor, IsTermInstance, AreTermInstances, AreTriggerInstances, IsInstanceUnder, AreInstances, IsInstance}

-- the depth of the term for a variable under binders of these numbers, where the term substituted for x has this depth
abbrev depth_for : List ℕ → ℕ → ℕ → ℕ → ℕ
depth_for [] x d n = cond (eqb n x) d 1
depth_for (k ∷ ks) x d n = cond (eqb n k) 1 (depth_for ks x d n)

abbrev mutual
  depth_of_term : List ℕ → ℕ → ℕ → TermData → ℕ
  depth_of_term ks x d (VarTerm n) = depth_for ks x d n
  depth_of_term ks x d (ConstantTerm c) = 1
  depth_of_term ks x d (UnaryTerm o t) = 1 + depth_of_term ks x d t
  depth_of_term ks x d (BinaryTerm o t u) = 1 + max (depth_of_term ks x d t) (depth_of_term ks x d u)
  depth_of_term ks x d (TernaryTerm o t u v) = 1 + max (depth_of_term ks x d t) (max (depth_of_term ks x d u) (depth_of_term ks x d v))
  depth_of_term ks x d (PackTerm a ts) = 1 + max (type_depth a) (depth_of_terms ks x d ts)
  depth_of_term ks x d (FieldTerm a k t) = 1 + max (type_depth a) (depth_of_term ks x d t)
  depth_of_term ks x d (SetFieldTerm a k t u) = 1 + max (type_depth a) (max (depth_of_term ks x d t) (depth_of_term ks x d u))
  depth_of_term ks x d (IfTerm p t u) = 1 + max (depth_of ks x d p) (max (depth_of_term ks x d t) (depth_of_term ks x d u))

  depth_of_terms : List ℕ → ℕ → ℕ → TermsData → ℕ
  depth_of_terms ks x d NoTerms = 0
  depth_of_terms ks x d (MoreTerms t ts) = max (depth_of_term ks x d t) (depth_of_terms ks x d ts)

  depth_of_triggers : List ℕ → ℕ → ℕ → TriggersData → ℕ
  depth_of_triggers ks x d NoTriggers = 0
  depth_of_triggers ks x d (MoreTriggers t ts) = max (depth_of_terms ks x d t) (depth_of_triggers ks x d ts)

  depth_of : List ℕ → ℕ → ℕ → FormulaData → ℕ
  depth_of ks x d (CompareFormula o t u) = 1 + max (depth_of_term ks x d t) (depth_of_term ks x d u)
  depth_of ks x d (IsFormula a t) = 1 + max (type_depth a) (depth_of_term ks x d t)
  depth_of ks x d (HoldsFormula t) = 1 + depth_of_term ks x d t
  depth_of ks x d (NotFormula p) = 1 + depth_of ks x d p
  depth_of ks x d (JoinFormula o ps) = 1 + depth_of_all ks x d ps
  depth_of ks x d (ConnectFormula o p q) = 1 + max (depth_of ks x d p) (depth_of ks x d q)
  depth_of ks x d (QuantifyFormula o n ts p) = 1 + max (depth_of_triggers (n ∷ ks) x d ts) (depth_of (n ∷ ks) x d p)

  depth_of_all : List ℕ → ℕ → ℕ → FormulasData → ℕ
  depth_of_all ks x d NoFormulas = 0
  depth_of_all ks x d (MoreFormulas p ps) = max (depth_of ks x d p) (depth_of_all ks x d ps)

-- the numbers that binders have in the formula itself
abbrev numbers : List (ℕ × ℕ) → List ℕ
numbers [] = []
numbers (b ∷ bs) = b.0 ∷ numbers bs

put_depth : (b : Bool) (t : TermData) (n : ℕ) → term_depth (cond b t (VarTerm n)) ≡ cond b (term_depth t) 1
put_depth true t n = refl
put_depth false t n = refl

either_depth : (b : Bool) (k e : ℕ) (u : TermData) (P : Type 0) → (P → term_depth u ≡ e) → Either b (u ≡ VarTerm k) P → term_depth u ≡ cond b 1 e
either_depth true k e u P f h = ap term_depth h
either_depth false k e u P f h = f h

stands_depth : (bs : List (ℕ × ℕ)) (x : ℕ) (t : TermData) (n : ℕ) (u : TermData) → StandsFor bs x t n u → term_depth u ≡ depth_for (numbers bs) x (term_depth t) n
stands_depth [] x t n u h = ap term_depth h ∙ put_depth (eqb n x) t n
stands_depth (b ∷ bs) x t n u h =
    either_depth (eqb n b.0) b.1 (depth_for (numbers bs) x (term_depth t) n) u ((free_in_term b.1 u ≡ false) × StandsFor bs x t n u) (λ g. stands_depth bs x t n u g.1) h

mutual
  term_deep : (bs : List (ℕ × ℕ)) (x : ℕ) (t a c : TermData) → IsTermInstance bs x t a c → term_depth c ≡ depth_of_term (numbers bs) x (term_depth t) a
  term_deep bs x t (VarTerm n) u h = stands_depth bs x t n u h
  term_deep bs x t (ConstantTerm c) (ConstantTerm d) h = refl
  term_deep bs x t (UnaryTerm o a) (UnaryTerm p c) h = ap (λ n. 1 + n) (term_deep bs x t a c h.1)
  term_deep bs x t (BinaryTerm o a b) (BinaryTerm p c d) h = λ i. 1 + max (term_deep bs x t a c h.1 i) (term_deep bs x t b d h.2 i)
  term_deep bs x t (TernaryTerm o a b e) (TernaryTerm p c d f) h = λ i. 1 + max (term_deep bs x t a c h.1 i) (max (term_deep bs x t b d h.2 i) (term_deep bs x t e f h.3 i))
  term_deep bs x t (PackTerm s ts) (PackTerm r us) h = λ i. 1 + max (sym (ap type_depth h.0) i) (terms_deep bs x t ts us h.1 i)
  term_deep bs x t (FieldTerm s k a) (FieldTerm r l c) h = λ i. 1 + max (sym (ap type_depth h.1) i) (term_deep bs x t a c h.2 i)
  term_deep bs x t (SetFieldTerm s k a b) (SetFieldTerm r l c d) h = λ i. 1 + max (sym (ap type_depth h.1) i) (max (term_deep bs x t a c h.2 i) (term_deep bs x t b d h.3 i))
  term_deep bs x t (IfTerm p a b) (IfTerm q c d) h = λ i. 1 + max (deep bs x t p q h.0 i) (max (term_deep bs x t a c h.1 i) (term_deep bs x t b d h.2 i))
  term_deep bs x t _ _ h = absurd h

  terms_deep : (bs : List (ℕ × ℕ)) (x : ℕ) (t : TermData) (as' cs : TermsData) → AreTermInstances bs x t as' cs → terms_depth cs ≡ depth_of_terms (numbers bs) x (term_depth t) as'
  terms_deep bs x t NoTerms NoTerms h = refl
  terms_deep bs x t (MoreTerms a as') (MoreTerms c cs) h = λ i. max (term_deep bs x t a c h.0 i) (terms_deep bs x t as' cs h.1 i)
  terms_deep bs x t _ _ h = absurd h

  triggers_deep : (bs : List (ℕ × ℕ)) (x : ℕ) (t : TermData) (as' cs : TriggersData) → AreTriggerInstances bs x t as' cs → triggers_depth cs ≡ depth_of_triggers (numbers bs) x (term_depth t) as'
  triggers_deep bs x t NoTriggers NoTriggers h = refl
  triggers_deep bs x t (MoreTriggers a as') (MoreTriggers c cs) h = λ i. max (terms_deep bs x t a c h.0 i) (triggers_deep bs x t as' cs h.1 i)
  triggers_deep bs x t _ _ h = absurd h

  deep : (bs : List (ℕ × ℕ)) (x : ℕ) (t : TermData) (p q : FormulaData) → IsInstanceUnder bs x t p q → formula_depth q ≡ depth_of (numbers bs) x (term_depth t) p
  deep bs x t (CompareFormula o a b) (CompareFormula p c d) h = λ i. 1 + max (term_deep bs x t a c h.1 i) (term_deep bs x t b d h.2 i)
  deep bs x t (IsFormula s a) (IsFormula r c) h = λ i. 1 + max (sym (ap type_depth h.0) i) (term_deep bs x t a c h.1 i)
  deep bs x t (HoldsFormula a) (HoldsFormula c) h = ap (λ n. 1 + n) (term_deep bs x t a c h)
  deep bs x t (NotFormula p) (NotFormula q) h = ap (λ n. 1 + n) (deep bs x t p q h)
  deep bs x t (JoinFormula o ps) (JoinFormula r qs) h = ap (λ n. 1 + n) (all_deep bs x t ps qs h.1)
  deep bs x t (ConnectFormula o p a) (ConnectFormula r q c) h = λ i. 1 + max (deep bs x t p q h.1 i) (deep bs x t a c h.2 i)
  deep bs x t (QuantifyFormula o n ts p) (QuantifyFormula r k us q) h = λ i. 1 + max (triggers_deep ((n, k) ∷ bs) x t ts us h.1 i) (deep ((n, k) ∷ bs) x t p q h.2 i)
  deep bs x t _ _ h = absurd h

  all_deep : (bs : List (ℕ × ℕ)) (x : ℕ) (t : TermData) (ps qs : FormulasData) → AreInstances bs x t ps qs → formulas_depth qs ≡ depth_of_all (numbers bs) x (term_depth t) ps
  all_deep bs x t NoFormulas NoFormulas h = refl
  all_deep bs x t (MoreFormulas p ps) (MoreFormulas q qs) h = λ i. max (deep bs x t p q h.0 i) (all_deep bs x t ps qs h.1 i)
  all_deep bs x t _ _ h = absurd h

pub same_depth : (x : ℕ) (t : TermData) (p q r : FormulaData) → IsInstance x t p q → IsInstance x t p r → formula_depth q ≡ formula_depth r
same_depth x t p q r h g = deep [] x t p q h ∙ sym (deep [] x t p r g)
