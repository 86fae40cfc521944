-- A variable above all others is new, and no quantifier binds it.
use Rattle.std.proofs.Common.{◌≡◌, ℕ, zero, suc, ◌+◌, ◌≤◌, Bool, false, ◌||◌, max, List, [], ◌∷◌, ◌++◌, Some, refl, sym, ap, ◌∙◌, subst, arith}
use Rattle.std.specs.Prelude.{slice_get}
use Rattle.std.proofs.lemmas.Bool.{ne_eqb, or_from, and_right}
use Rattle.std.proofs.lemmas.List.Elements.{All-nil, All-cons}
use Rattle.fol.specs.Depth.{formula_depth}
use Rattle.fol.specs.FormulaData.{TermData, VarTerm, ConstantTerm, UnaryTerm, BinaryTerm, TernaryTerm, PackTerm, FieldTerm, SetFieldTerm, IfTerm, TermsData, NoTerms, MoreTerms, TriggersData, NoTriggers, MoreTriggers, FormulaData, CompareFormula, IsFormula, HoldsFormula, NotFormula, JoinFormula, ConnectFormula, QuantifyFormula, FormulasData, NoFormulas, MoreFormulas}
use Rattle.substitution.specs.Free.{free_in_term, free_in_terms, free_in_triggers, free_in, free_in_formulas}
use Rattle.certificates.specs.Quantified.{IsBodyWith, IsNew as IsNewVariable}
use Rattle.fol.specs.declared.operators.Quantifier.TheVariants.{Exists}
use Rattle.certificates.specs.Names.{above_term, above_terms, above_triggers, above, above_formulas, above_all}
use Rattle.certificates.specs.BranchesBranch.{Branch, Entry, formulas, Says}
use Rattle.term_pool.specs.Put.{IsClearTerm, AreClearTerms, AreClearTriggers, IsClear, AreClear, put_in}
use Rattle.term_pool.proofs.PutLemmas.{put_instance}
use Rattle.term_pool.proofs.SizeLemmas.{instance_depth}

left : (m n v : ℕ) → max m n ≤ v → m ≤ v
left m n v h = omega (arith, h)

right : (m n v : ℕ) → max m n ≤ v → n ≤ v
right m n v h = omega (arith, h)

-- neither of two parts has the variable
both_free : (a b : Bool) → a ≡ false → b ≡ false → a || b ≡ false
both_free a b e f = or_from a b e f

module _ (v : ℕ) where
  mutual
    term_new : (t : TermData) → above_term t ≤ v → (free_in_term v t ≡ false) × IsClearTerm (VarTerm v) t
    term_new (VarTerm n) h = (ne_eqb v n (λ e. omega (arith, h, e)), tt)
    term_new (ConstantTerm c) h = (refl, tt)
    term_new (UnaryTerm o t) h = term_new t h
    term_new (BinaryTerm o t u) h =
        let l = term_new t (left (above_term t) (above_term u) v h) in
        let r = term_new u (right (above_term t) (above_term u) v h) in
        (both_free _ _ l.0 r.0, (l.1, r.1))
    term_new (TernaryTerm o t u w) h =
        let rest = right (above_term t) (max (above_term u) (above_term w)) v h in
        let l = term_new t (left (above_term t) (max (above_term u) (above_term w)) v h) in
        let m = term_new u (left (above_term u) (above_term w) v rest) in
        let r = term_new w (right (above_term u) (above_term w) v rest) in
        (both_free _ _ l.0 (both_free _ _ m.0 r.0), (l.1, m.1, r.1))
    term_new (PackTerm a ts) h = terms_new ts h
    term_new (FieldTerm a k t) h = term_new t h
    term_new (SetFieldTerm a k t u) h =
        let l = term_new t (left (above_term t) (above_term u) v h) in
        let r = term_new u (right (above_term t) (above_term u) v h) in
        (both_free _ _ l.0 r.0, (l.1, r.1))
    term_new (IfTerm p t u) h =
        let rest = right (above p) (max (above_term t) (above_term u)) v h in
        let l = formula_new p (left (above p) (max (above_term t) (above_term u)) v h) in
        let m = term_new t (left (above_term t) (above_term u) v rest) in
        let r = term_new u (right (above_term t) (above_term u) v rest) in
        (both_free _ _ l.0 (both_free _ _ m.0 r.0), (l.1, m.1, r.1))

    terms_new : (ts : TermsData) → above_terms ts ≤ v → (free_in_terms v ts ≡ false) × AreClearTerms (VarTerm v) ts
    terms_new NoTerms h = (refl, tt)
    terms_new (MoreTerms t ts) h =
        let l = term_new t (left (above_term t) (above_terms ts) v h) in
        let r = terms_new ts (right (above_term t) (above_terms ts) v h) in
        (both_free _ _ l.0 r.0, (l.1, r.1))

    triggers_new : (ts : TriggersData) → above_triggers ts ≤ v → (free_in_triggers v ts ≡ false) × AreClearTriggers (VarTerm v) ts
    triggers_new NoTriggers h = (refl, tt)
    triggers_new (MoreTriggers t ts) h =
        let l = terms_new t (left (above_terms t) (above_triggers ts) v h) in
        let r = triggers_new ts (right (above_terms t) (above_triggers ts) v h) in
        (both_free _ _ l.0 r.0, (l.1, r.1))

    pub formula_new : (p : FormulaData) → above p ≤ v → (free_in v p ≡ false) × IsClear (VarTerm v) p
    formula_new (CompareFormula o t u) h =
        let l = term_new t (left (above_term t) (above_term u) v h) in
        let r = term_new u (right (above_term t) (above_term u) v h) in
        (both_free _ _ l.0 r.0, (l.1, r.1))
    formula_new (IsFormula a t) h = term_new t h
    formula_new (HoldsFormula t) h = term_new t h
    formula_new (NotFormula p) h = formula_new p h
    formula_new (JoinFormula o ps) h = formulas_new ps h
    formula_new (ConnectFormula o p q) h =
        let l = formula_new p (left (above p) (above q) v h) in
        let r = formula_new q (right (above p) (above q) v h) in
        (both_free _ _ l.0 r.0, (l.1, r.1))
    formula_new (QuantifyFormula o n ts p) h =
        let own = left (suc n) (max (above_triggers ts) (above p)) v h in
        let rest = right (suc n) (max (above_triggers ts) (above p)) v h in
        let l = triggers_new ts (left (above_triggers ts) (above p) v rest) in
        let r = formula_new p (right (above_triggers ts) (above p) v rest) in
        (and_right _ _ (both_free _ _ l.0 r.0), (ne_eqb n v (λ e. omega (arith, own, e)), l.1, r.1))

    formulas_new : (ps : FormulasData) → above_formulas ps ≤ v → (free_in_formulas v ps ≡ false) × AreClear (VarTerm v) ps
    formulas_new NoFormulas h = (refl, tt)
    formulas_new (MoreFormulas p ps) h =
        let l = formula_new p (left (above p) (above_formulas ps) v h) in
        let r = formulas_new ps (right (above p) (above_formulas ps) v h) in
        (both_free _ _ l.0 r.0, (l.1, r.1))

  pub all_new : (ps : List FormulaData) → above_all ps ≤ v → IsNewVariable v ps
  all_new [] h = All-nil (λ p. free_in v p ≡ false)
  all_new (p ∷ ps) h =
      All-cons (λ p. free_in v p ≡ false) p ps (formula_new p (left (above p) (above_all ps) v h)).0 (all_new ps (right (above p) (above_all ps) v h))

-- ---- entries

said_below : (b : Branch) (i : ℕ) (e : Entry) → slice_get b i ≡ Some e → above e.formula ≤ above_all (formulas b)
said_below [] i e h = absurd (cc)
said_below (x ∷ b) zero e h =
    let same : x ≡ e = cc in
    subst (λ (y : Entry). above y.formula ≤ max (above x.formula) (above_all (formulas b))) same (omega arith)
said_below (x ∷ b) (suc i) e h = (let l = said_below b i e h in omega (arith, l))

-- the bound of an entry is at most that of the branch
pub entry_below : (b : Branch) (i : ℕ) (p : FormulaData) → Says b i p → above p ≤ above_all (formulas b)
entry_below b i p s = subst (λ q. above q ≤ above_all (formulas b)) s.is (said_below b i s.entry s.found)

pub longer_above : (b more : Branch) → above_all (formulas b) ≤ above_all (formulas (b ++ more))
longer_above [] more = omega arith
longer_above (x ∷ b) more = (let l = longer_above b more in omega (arith, l))

pub above_push : (b : Branch) (e : Entry) → above_all (formulas (b ++ e ∷ [])) ≡ max (above_all (formulas b)) (above e.formula)
above_push [] e = omega arith
above_push (x ∷ b) e = (let l = above_push b e in omega (arith, l))

-- ---- the instance for such a variable

-- the instance of an existential formula for a variable, and its depth by that of another instance
pub record IsSaid (v : ℕ) (entry : FormulaData) (depth : ℕ) : Type 0 where
  pub formula : FormulaData
  pub is_body : IsBodyWith Exists (VarTerm v) entry formula
  pub same : formula_depth formula ≡ depth

again : (u v n : ℕ) (body p : FormulaData) → IsClear (VarTerm v) body → formula_depth p ≡ formula_depth body → formula_depth (put_in n (VarTerm v) body) ≡ formula_depth p
again u v n body p clear e = instance_depth n v body (put_in n (VarTerm v) body) (put_instance n (VarTerm v) body clear) ∙ sym e

body_below : (n : ℕ) (ts : TriggersData) (p : FormulaData) (v : ℕ) → max (suc n) (max (above_triggers ts) (above p)) ≤ v → above p ≤ v
body_below n ts p v h = omega (arith, h)

pub said_again : (u v : ℕ) (entry p : FormulaData) → above entry ≤ v → IsBodyWith Exists (VarTerm u) entry p → IsSaid v entry (formula_depth p)
said_again u v (QuantifyFormula w n ts body) p h is =
    let clear = (formula_new v body (body_below n ts body v h)).1 in
    record {
      formula = put_in n (VarTerm v) body;
      is_body = (is.0, put_instance n (VarTerm v) body clear);
      same = again u v n body p clear (instance_depth n u body p is.1);
    }
said_again u v (NotFormula (QuantifyFormula w n ts body)) (NotFormula p) h is =
    let clear = (formula_new v body (body_below n ts body v h)).1 in
    record {
      formula = NotFormula (put_in n (VarTerm v) body);
      is_body = (is.0, put_instance n (VarTerm v) body clear);
      same = ap (λ d. 1 + d) (again u v n body p clear (instance_depth n u body p is.1));
    }
said_again u v _ _ h is = absurd is
