-- A quantifier-free formula has one instance for a term: the result of the substitution.
use Rattle.std.proofs.Common.{◌≡◌, ℕ, Bool, true, false, ◌&&◌, [], refl, sym, ap, ◌∙◌}
use Rattle.fol.specs.FormulaData.{TermData, VarTerm, ConstantTerm, UnaryTerm, BinaryTerm, TernaryTerm, PackTerm, FieldTerm, SetFieldTerm, IfTerm, TermsData, NoTerms, MoreTerms, FormulaData, CompareFormula, IsFormula, HoldsFormula, NotFormula, JoinFormula, ConnectFormula, QuantifyFormula, FormulasData, NoFormulas, MoreFormulas}
use Rattle.substitution.specs.Instances.{IsTermInstance, AreTermInstances, IsInstanceUnder, AreInstances, IsInstance}
use Rattle.term_pool.specs.Put.{put_in_term, put_in_terms, put_in, put_in_all, IsClearTerm, AreClearTerms, IsClear, AreClear}
use Rattle.ematching.specs.QuantifierFree.{quantifier_free_term, quantifier_free_terms, quantifier_free, quantifier_free_all}

left : (a b : Bool) → a && b ≡ true → a ≡ true
left true b e = refl
left false b e = e

right : (a b : Bool) → a && b ≡ true → b ≡ true
right true b e = e
right false b e = absurd (cc)

module _ (x : ℕ) (t : TermData) where
  mutual
    term_only : (a c : TermData) → quantifier_free_term a ≡ true → IsTermInstance [] x t a c → c ≡ put_in_term x t a
    term_only (VarTerm n) u f h = h
    term_only (ConstantTerm k) (ConstantTerm l) f h = ap ConstantTerm (sym h)
    term_only (UnaryTerm o a) (UnaryTerm p c) f h = λ i. UnaryTerm (sym h.0 i) (term_only a c f h.1 i)
    term_only (BinaryTerm o a b) (BinaryTerm p c d) f h = λ i. BinaryTerm (sym h.0 i) (term_only a c (left _ _ f) h.1 i) (term_only b d (right (quantifier_free_term a) _ f) h.2 i)
    term_only (TernaryTerm o a b e) (TernaryTerm p c d g) f h =
        let rest : quantifier_free_term b && quantifier_free_term e ≡ true = right (quantifier_free_term a) _ f in
        λ i. TernaryTerm (sym h.0 i) (term_only a c (left _ _ f) h.1 i) (term_only b d (left _ _ rest) h.2 i) (term_only e g (right (quantifier_free_term b) _ rest) h.3 i)
    term_only (PackTerm s ts) (PackTerm r us) f h = λ i. PackTerm (sym h.0 i) (terms_only ts us f h.1 i)
    term_only (FieldTerm s k a) (FieldTerm r l c) f h = λ i. FieldTerm (sym h.1 i) (sym h.0 i) (term_only a c f h.2 i)
    term_only (SetFieldTerm s k a b) (SetFieldTerm r l c d) f h = λ i. SetFieldTerm (sym h.1 i) (sym h.0 i) (term_only a c (left _ _ f) h.2 i) (term_only b d (right (quantifier_free_term a) _ f) h.3 i)
    term_only (IfTerm p a b) (IfTerm q c d) f h =
        let rest : quantifier_free_term a && quantifier_free_term b ≡ true = right (quantifier_free p) _ f in
        λ i. IfTerm (only p q (left _ _ f) h.0 i) (term_only a c (left _ _ rest) h.1 i) (term_only b d (right (quantifier_free_term a) _ rest) h.2 i)
    term_only _ _ f h = absurd h

    terms_only : (as' cs : TermsData) → quantifier_free_terms as' ≡ true → AreTermInstances [] x t as' cs → cs ≡ put_in_terms x t as'
    terms_only NoTerms NoTerms f h = refl
    terms_only (MoreTerms a as') (MoreTerms c cs) f h = λ i. MoreTerms (term_only a c (left _ _ f) h.0 i) (terms_only as' cs (right (quantifier_free_term a) _ f) h.1 i)
    terms_only _ _ f h = absurd h

    pub only : (p q : FormulaData) → quantifier_free p ≡ true → IsInstanceUnder [] x t p q → q ≡ put_in x t p
    only (CompareFormula o a b) (CompareFormula p c d) f h = λ i. CompareFormula (sym h.0 i) (term_only a c (left _ _ f) h.1 i) (term_only b d (right (quantifier_free_term a) _ f) h.2 i)
    only (IsFormula s a) (IsFormula r c) f h = λ i. IsFormula (sym h.0 i) (term_only a c f h.1 i)
    only (HoldsFormula a) (HoldsFormula c) f h = ap HoldsFormula (term_only a c f h)
    only (NotFormula p) (NotFormula q) f h = ap NotFormula (only p q f h)
    only (JoinFormula o ps) (JoinFormula r qs) f h = λ i. JoinFormula (sym h.0 i) (all_only ps qs f h.1 i)
    only (ConnectFormula o p a) (ConnectFormula r q c) f h = λ i. ConnectFormula (sym h.0 i) (only p q (left _ _ f) h.1 i) (only a c (right (quantifier_free p) _ f) h.2 i)
    only (QuantifyFormula o n ts p) q f h = absurd (cc)
    only _ _ f h = absurd h

    all_only : (ps qs : FormulasData) → quantifier_free_all ps ≡ true → AreInstances [] x t ps qs → qs ≡ put_in_all x t ps
    all_only NoFormulas NoFormulas f h = refl
    all_only (MoreFormulas p ps) (MoreFormulas q qs) f h = λ i. MoreFormulas (only p q (left _ _ f) h.0 i) (all_only ps qs (right (quantifier_free p) _ f) h.1 i)
    all_only _ _ f h = absurd h

-- nothing is captured there
module _ (t : TermData) where
  mutual
    term_clear : (a : TermData) → quantifier_free_term a ≡ true → IsClearTerm t a
    term_clear (VarTerm n) f = tt
    term_clear (ConstantTerm k) f = tt
    term_clear (UnaryTerm o a) f = term_clear a f
    term_clear (BinaryTerm o a b) f = (term_clear a (left _ _ f), term_clear b (right (quantifier_free_term a) _ f))
    term_clear (TernaryTerm o a b c) f =
        let rest : quantifier_free_term b && quantifier_free_term c ≡ true = right (quantifier_free_term a) _ f in
        (term_clear a (left _ _ f), term_clear b (left _ _ rest), term_clear c (right (quantifier_free_term b) _ rest))
    term_clear (PackTerm s ts) f = terms_clear ts f
    term_clear (FieldTerm s k a) f = term_clear a f
    term_clear (SetFieldTerm s k a b) f = (term_clear a (left _ _ f), term_clear b (right (quantifier_free_term a) _ f))
    term_clear (IfTerm p a b) f =
        let rest : quantifier_free_term a && quantifier_free_term b ≡ true = right (quantifier_free p) _ f in
        (clear p (left _ _ f), term_clear a (left _ _ rest), term_clear b (right (quantifier_free_term a) _ rest))

    terms_clear : (ts : TermsData) → quantifier_free_terms ts ≡ true → AreClearTerms t ts
    terms_clear NoTerms f = tt
    terms_clear (MoreTerms a ts) f = (term_clear a (left _ _ f), terms_clear ts (right (quantifier_free_term a) _ f))

    pub clear : (p : FormulaData) → quantifier_free p ≡ true → IsClear t p
    clear (CompareFormula o a b) f = (term_clear a (left _ _ f), term_clear b (right (quantifier_free_term a) _ f))
    clear (IsFormula s a) f = term_clear a f
    clear (HoldsFormula a) f = term_clear a f
    clear (NotFormula p) f = clear p f
    clear (JoinFormula o ps) f = all_clear ps f
    clear (ConnectFormula o p q) f = (clear p (left _ _ f), clear q (right (quantifier_free p) _ f))
    clear (QuantifyFormula o n ts p) f = absurd (cc)

    all_clear : (ps : FormulasData) → quantifier_free_all ps ≡ true → AreClear t ps
    all_clear NoFormulas f = tt
    all_clear (MoreFormulas p ps) f = (clear p (left _ _ f), all_clear ps (right (quantifier_free p) _ f))

pub one_instance : (x : ℕ) (t : TermData) (p q r : FormulaData) → quantifier_free p ≡ true → IsInstance x t p q → IsInstance x t p r → q ≡ r
one_instance x t p q r f h g = only x t p q f h ∙ sym (only x t p r f g)
