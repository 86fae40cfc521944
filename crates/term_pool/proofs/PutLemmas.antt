-- The result of a substitution is an instance if no quantifier binds a variable of the term.
use Rattle.std.proofs.Common.{◌≡◌, ◌≢◌, ◌⊎◌, inl, inr, ℕ, Bool, true, false, cond, eqb, List, [], ◌∷◌, refl, sym, ap, ◌∙◌}
use Rattle.std.proofs.lemmas.Bool.{eqb-true, eq-eqb}
use Rattle.fol.specs.FormulaData.{TermData, VarTerm, ConstantTerm, UnaryTerm, BinaryTerm, TernaryTerm, PackTerm, FieldTerm, SetFieldTerm, IfTerm, TermsData, NoTerms, MoreTerms, TriggersData, NoTriggers, MoreTriggers, FormulaData, CompareFormula, IsFormula, HoldsFormula, NotFormula, JoinFormula, ConnectFormula, QuantifyFormula, FormulasData, NoFormulas, MoreFormulas}
use Rattle.fol.specs.declared.operators.Quantifier.{Quantifier}
use Rattle.substitution.specs.Free.{free_in_term}
use Rattle.substitution.specs.Instances.{Either, StandsFor, IsTermInstance, AreTermInstances, AreTriggerInstances, IsInstanceUnder, AreInstances, IsInstance}
use Rattle.term_pool.specs.Put.{put_in_term, put_in_terms, put_in_triggers, put_in, put_in_all, IsClearTerm, AreClearTerms, AreClearTriggers, IsClear, AreClear}

-- binders that keep their numbers
abbrev same : List ℕ → List (ℕ × ℕ)
same [] = []
same (k ∷ ks) = (k, k) ∷ same ks

abbrev IsAmong : ℕ → List ℕ → Type 0
IsAmong x [] = ⊥
IsAmong x (k ∷ ks) = (x ≡ k) ⊎ IsAmong x ks

-- none of them is the variable, or free in the term
abbrev AreApart : ℕ → TermData → List ℕ → Type 0
AreApart x t [] = Unit {0}
AreApart x t (k ∷ ks) = (k ≢ x) × (free_in_term k t ≡ false) × AreApart x t ks

either : (b : Bool) (P Q : Type 0) → (b ≡ true → P) → (b ≡ false → Q) → Either b P Q
either true P Q p q = p refl
either false P Q p q = q refl

differ : (m n : ℕ) → eqb m n ≡ false → eqb n m ≡ false
differ m n e = go (eqb n m) refl
  where
    go : (b : Bool) → eqb n m ≡ b → eqb n m ≡ false
    go true f = let same : true ≡ false = sym (eq-eqb m n (sym (eqb-true n m f))) ∙ e in absurd (cc)
    go false f = f

module _ (x : ℕ) (t : TermData) where
  -- a variable that is not replaced
  stands_itself : (ks : List ℕ) (n : ℕ) → (n ≡ x → IsAmong x ks) → StandsFor (same ks) x t n (VarTerm n)
  stands_itself [] n h = go (eqb n x) refl
    where
      go : (b : Bool) → eqb n x ≡ b → VarTerm n ≡ cond b t (VarTerm n)
      go true e = absurd (h (eqb-true n x e))
      go false e = refl
  stands_itself (k ∷ ks) n h =
      either (eqb n k) (VarTerm n ≡ VarTerm k) ((free_in_term k (VarTerm n) ≡ false) × StandsFor (same ks) x t n (VarTerm n)) (λ e. ap VarTerm (eqb-true n k e))
      (λ e. (differ n k e, stands_itself ks n (λ f. elim (h f) [ inl g ↦ (let both : true ≡ false = sym (eq-eqb n k (f ∙ g)) ∙ e in absurd (cc)) | inr g ↦ g ])))

  put_clear : (k : ℕ) → free_in_term k t ≡ false → (n : ℕ) → eqb n k ≡ false → (b : Bool) → free_in_term k (cond b t (VarTerm n)) ≡ false
  put_clear k h n e true = h
  put_clear k h n e false = differ n k e

  stands_put : (ks : List ℕ) → AreApart x t ks → (n : ℕ) → StandsFor (same ks) x t n (put_in_term x t (VarTerm n))
  stands_put [] h n = refl
  stands_put (k ∷ ks) h n =
      either (eqb n k) (cond (eqb n x) t (VarTerm n) ≡ VarTerm k) ((free_in_term k (cond (eqb n x) t (VarTerm n)) ≡ false) × StandsFor (same ks) x t n (cond (eqb n x) t (VarTerm n)))
      (λ e. bound (eqb n x) refl e)
      (λ e. (put_clear k h.1 n e (eqb n x), stands_put ks h.2 n))
    where
      bound : (b : Bool) → eqb n x ≡ b → eqb n k ≡ true → cond b t (VarTerm n) ≡ VarTerm k
      bound true f e = absurd (h.0 (sym (eqb-true n k e) ∙ eqb-true n x f))
      bound false f e = ap VarTerm (eqb-true n k e)

-- ---- below a binder of the variable itself nothing changes

mutual
  term_itself : (x : ℕ) (t : TermData) (ks : List ℕ) → IsAmong x ks → (a : TermData) → IsTermInstance (same ks) x t a a
  term_itself x t ks h (VarTerm n) = stands_itself x t ks n (λ e. h)
  term_itself x t ks h (ConstantTerm c) = refl
  term_itself x t ks h (UnaryTerm o a) = (refl, term_itself x t ks h a)
  term_itself x t ks h (BinaryTerm o a b) = (refl, term_itself x t ks h a, term_itself x t ks h b)
  term_itself x t ks h (TernaryTerm o a b c) = (refl, term_itself x t ks h a, term_itself x t ks h b, term_itself x t ks h c)
  term_itself x t ks h (PackTerm s ts) = (refl, terms_itself x t ks h ts)
  term_itself x t ks h (FieldTerm s k a) = (refl, refl, term_itself x t ks h a)
  term_itself x t ks h (SetFieldTerm s k a b) = (refl, refl, term_itself x t ks h a, term_itself x t ks h b)
  term_itself x t ks h (IfTerm p a b) = (itself x t ks h p, term_itself x t ks h a, term_itself x t ks h b)

  terms_itself : (x : ℕ) (t : TermData) (ks : List ℕ) → IsAmong x ks → (as' : TermsData) → AreTermInstances (same ks) x t as' as'
  terms_itself x t ks h NoTerms = tt
  terms_itself x t ks h (MoreTerms a as') = (term_itself x t ks h a, terms_itself x t ks h as')

  triggers_itself : (x : ℕ) (t : TermData) (ks : List ℕ) → IsAmong x ks → (as' : TriggersData) → AreTriggerInstances (same ks) x t as' as'
  triggers_itself x t ks h NoTriggers = tt
  triggers_itself x t ks h (MoreTriggers a as') = (terms_itself x t ks h a, triggers_itself x t ks h as')

  itself : (x : ℕ) (t : TermData) (ks : List ℕ) → IsAmong x ks → (p : FormulaData) → IsInstanceUnder (same ks) x t p p
  itself x t ks h (CompareFormula o a b) = (refl, term_itself x t ks h a, term_itself x t ks h b)
  itself x t ks h (IsFormula s a) = (refl, term_itself x t ks h a)
  itself x t ks h (HoldsFormula a) = term_itself x t ks h a
  itself x t ks h (NotFormula p) = itself x t ks h p
  itself x t ks h (JoinFormula o ps) = (refl, all_itself x t ks h ps)
  itself x t ks h (ConnectFormula o p q) = (refl, itself x t ks h p, itself x t ks h q)
  itself x t ks h (QuantifyFormula o n ts p) = (refl, triggers_itself x t (n ∷ ks) (inr h) ts, itself x t (n ∷ ks) (inr h) p)

  all_itself : (x : ℕ) (t : TermData) (ks : List ℕ) → IsAmong x ks → (ps : FormulasData) → AreInstances (same ks) x t ps ps
  all_itself x t ks h NoFormulas = tt
  all_itself x t ks h (MoreFormulas p ps) = (itself x t ks h p, all_itself x t ks h ps)

-- ---- elsewhere the term is substituted

apart : (n x : ℕ) → eqb n x ≡ false → n ≢ x
apart n x e f = let both : true ≡ false = sym (eq-eqb n x f) ∙ e in absurd (cc)

-- under a quantifier of the variable itself nothing changes
quantifier_put : (x : ℕ) (t : TermData) (ks : List ℕ) (n : ℕ) (o : Quantifier) (ts : TriggersData) (p : FormulaData) (b : Bool) → eqb n x ≡ b → (b ≡ true → AreTriggerInstances (same (n ∷ ks)) x t ts ts × IsInstanceUnder (same (n ∷ ks)) x t p p) → (b ≡ false → AreTriggerInstances (same (n ∷ ks)) x t ts (put_in_triggers x t ts) × IsInstanceUnder (same (n ∷ ks)) x t p (put_in x t p)) → IsInstanceUnder (same ks) x t (QuantifyFormula o n ts p) (cond b (QuantifyFormula o n ts p) (QuantifyFormula o n (put_in_triggers x t ts) (put_in x t p)))
quantifier_put x t ks n o ts p true e own other = (refl, (own refl).0, (own refl).1)
quantifier_put x t ks n o ts p false e own other = (refl, (other refl).0, (other refl).1)

mutual
  term_put : (x : ℕ) (t : TermData) (ks : List ℕ) → AreApart x t ks → (a : TermData) → IsClearTerm t a → IsTermInstance (same ks) x t a (put_in_term x t a)
  term_put x t ks h (VarTerm n) c = stands_put x t ks h n
  term_put x t ks h (ConstantTerm k) c = refl
  term_put x t ks h (UnaryTerm o a) c = (refl, term_put x t ks h a c)
  term_put x t ks h (BinaryTerm o a b) c = (refl, term_put x t ks h a c.0, term_put x t ks h b c.1)
  term_put x t ks h (TernaryTerm o a b d) c = (refl, term_put x t ks h a c.0, term_put x t ks h b c.1, term_put x t ks h d c.2)
  term_put x t ks h (PackTerm s ts) c = (refl, terms_put x t ks h ts c)
  term_put x t ks h (FieldTerm s k a) c = (refl, refl, term_put x t ks h a c)
  term_put x t ks h (SetFieldTerm s k a b) c = (refl, refl, term_put x t ks h a c.0, term_put x t ks h b c.1)
  term_put x t ks h (IfTerm p a b) c = (put x t ks h p c.0, term_put x t ks h a c.1, term_put x t ks h b c.2)

  terms_put : (x : ℕ) (t : TermData) (ks : List ℕ) → AreApart x t ks → (as' : TermsData) → AreClearTerms t as' → AreTermInstances (same ks) x t as' (put_in_terms x t as')
  terms_put x t ks h NoTerms c = tt
  terms_put x t ks h (MoreTerms a as') c = (term_put x t ks h a c.0, terms_put x t ks h as' c.1)

  triggers_put : (x : ℕ) (t : TermData) (ks : List ℕ) → AreApart x t ks → (as' : TriggersData) → AreClearTriggers t as' → AreTriggerInstances (same ks) x t as' (put_in_triggers x t as')
  triggers_put x t ks h NoTriggers c = tt
  triggers_put x t ks h (MoreTriggers a as') c = (terms_put x t ks h a c.0, triggers_put x t ks h as' c.1)

  put : (x : ℕ) (t : TermData) (ks : List ℕ) → AreApart x t ks → (p : FormulaData) → IsClear t p → IsInstanceUnder (same ks) x t p (put_in x t p)
  put x t ks h (CompareFormula o a b) c = (refl, term_put x t ks h a c.0, term_put x t ks h b c.1)
  put x t ks h (IsFormula s a) c = (refl, term_put x t ks h a c)
  put x t ks h (HoldsFormula a) c = term_put x t ks h a c
  put x t ks h (NotFormula p) c = put x t ks h p c
  put x t ks h (JoinFormula o ps) c = (refl, all_put x t ks h ps c)
  put x t ks h (ConnectFormula o p q) c = (refl, put x t ks h p c.0, put x t ks h q c.1)
  put x t ks h (QuantifyFormula o n ts p) c =
      quantifier_put x t ks n o ts p (eqb n x) refl (λ e. (triggers_itself x t (n ∷ ks) (inl (sym (eqb-true n x e))) ts, itself x t (n ∷ ks) (inl (sym (eqb-true n x e))) p))
      (λ e. (triggers_put x t (n ∷ ks) (apart n x e, c.0, h) ts c.1, put x t (n ∷ ks) (apart n x e, c.0, h) p c.2))

  all_put : (x : ℕ) (t : TermData) (ks : List ℕ) → AreApart x t ks → (ps : FormulasData) → AreClear t ps → AreInstances (same ks) x t ps (put_in_all x t ps)
  all_put x t ks h NoFormulas c = tt
  all_put x t ks h (MoreFormulas p ps) c = (put x t ks h p c.0, all_put x t ks h ps c.1)

-- the formula with the term substituted for the variable
pub put_instance : (x : ℕ) (t : TermData) (p : FormulaData) → IsClear t p → IsInstance x t p (put_in x t p)
put_instance x t p c = put x t [] tt p c
