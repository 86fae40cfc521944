-- The result of a substitution with binders renamed to unused numbers is an instance.
use Rattle.std.proofs.Common.{◌≡◌, ℕ, ◌+◌, ◌<◌, ◌≤◌, Bool, true, false, not, cond, ◌&&◌, ◌||◌, ◌==◌, ◌⊎◌, inl, inr, List, [], ◌∷◌, refl, sym, ap, ◌∙◌, arith}
use Rattle.std.specs.Prelude.{nat_lt, nat_le}
use Rattle.std.proofs.lemmas.Bool.{eqb-true, eqb-false, ne_eqb, ltb-true, leb-true}
use Rattle.base.proofs.TruthValues.{both_true, either_true}
use Rattle.fol.specs.FormulaData.{TermData, VarTerm, ConstantTerm, UnaryTerm, BinaryTerm, TernaryTerm, PackTerm, FieldTerm, SetFieldTerm, IfTerm, TermsData, NoTerms, MoreTerms, TriggersData, NoTriggers, MoreTriggers, FormulaData, CompareFormula, IsFormula, HoldsFormula, NotFormula, JoinFormula, ConnectFormula, QuantifyFormula, FormulasData, NoFormulas, MoreFormulas}
use Rattle.fol.specs.Depth.{term_depth, terms_depth, triggers_depth, formula_depth, formulas_depth}
use Rattle.substitution.specs.Free.{free_in_term, free_in_terms, free_in_triggers, free_in, free_in_formulas}
use Rattle.substitution.specs.Instances.{Either, StandsFor, IsTermInstance, AreTermInstances, AreTriggerInstances, IsInstanceUnder, AreInstances, IsInstance, IsTrueAlike}
use Rattle.substitution.proofs.InstanceTruth.{instance_truth}
use Rattle.substitution.specs.Blocks.{is_outside, term_clear, terms_clear, triggers_clear, formula_clear, formulas_clear, AreUnused}
use Rattle.substitution.specs.Replaced.{put_for, number_for, replaced_term, replaced_terms, replaced_triggers, replaced, replaced_all}

outside : (low high n : ℕ) → is_outside low high n ≡ true → (n < low) ⊎ (high ≤ n)
outside low high n e = go (either_true (nat_lt n low) (nat_le high n) e)
  where
    go : (nat_lt n low ≡ true) ⊎ (nat_le high n ≡ true) → (n < low) ⊎ (high ≤ n)
    go (inl h) = inl (ltb-true n low h)
    go (inr h) = inr (leb-true high n h)

none_of : (a b : Bool) → a ≡ false → b ≡ false → a || b ≡ false
none_of a b e h = (λ i. e i || b) ∙ h

not_inside : (a b : Bool) → b ≡ false → a && b ≡ false
not_inside true b h = h
not_inside false b h = refl

-- ---- no number of the block occurs free

module _ (low high k : ℕ) (from : low ≤ k) (to : k < high) where
  other : (n : ℕ) → is_outside low high n ≡ true → k == n ≡ false
  other n e = ne_eqb k n (go (outside low high n e))
    where
      go : (n < low) ⊎ (high ≤ n) → k ≡ n → ⊥
      go (inl h) same = absurd (omega arith)
      go (inr h) same = absurd (omega arith)

  two : (c d a b : Bool) → (c ≡ true → a ≡ false) → (d ≡ true → b ≡ false) → c && d ≡ true → a || b ≡ false
  two c d a b first second h = let both = both_true c d h in none_of a b (first both.0) (second both.1)

  mutual
    not_in_term : (t : TermData) → term_clear low high t ≡ true → free_in_term k t ≡ false
    not_in_term (VarTerm n) h = other n h
    not_in_term (ConstantTerm c) h = refl
    not_in_term (UnaryTerm o a) h = not_in_term a h
    not_in_term (BinaryTerm o a b) h =
        two (term_clear low high a) (term_clear low high b) (free_in_term k a) (free_in_term k b) (λ e. not_in_term a e) (λ e. not_in_term b e) h
    not_in_term (TernaryTerm o a b c) h =
        two (term_clear low high a) (term_clear low high b && term_clear low high c) (free_in_term k a) (free_in_term k b || free_in_term k c) (λ e. not_in_term a e) (λ e. two (term_clear low high b) (term_clear low high c) (free_in_term k b) (free_in_term k c) (λ f. not_in_term b f) (λ f. not_in_term c f) e) h
    not_in_term (PackTerm s ts) h = not_in_terms ts h
    not_in_term (FieldTerm s l a) h = not_in_term a h
    not_in_term (SetFieldTerm s l a b) h =
        two (term_clear low high a) (term_clear low high b) (free_in_term k a) (free_in_term k b) (λ e. not_in_term a e) (λ e. not_in_term b e) h
    not_in_term (IfTerm p a b) h =
        two (formula_clear low high p) (term_clear low high a && term_clear low high b) (free_in k p) (free_in_term k a || free_in_term k b) (λ e. not_in p e) (λ e. two (term_clear low high a) (term_clear low high b) (free_in_term k a) (free_in_term k b) (λ f. not_in_term a f) (λ f. not_in_term b f) e) h

    not_in_terms : (ts : TermsData) → terms_clear low high ts ≡ true → free_in_terms k ts ≡ false
    not_in_terms NoTerms h = refl
    not_in_terms (MoreTerms a ts) h =
        two (term_clear low high a) (terms_clear low high ts) (free_in_term k a) (free_in_terms k ts) (λ e. not_in_term a e) (λ e. not_in_terms ts e) h

    not_in_triggers : (ts : TriggersData) → triggers_clear low high ts ≡ true → free_in_triggers k ts ≡ false
    not_in_triggers NoTriggers h = refl
    not_in_triggers (MoreTriggers a ts) h =
        two (terms_clear low high a) (triggers_clear low high ts) (free_in_terms k a) (free_in_triggers k ts) (λ e. not_in_terms a e) (λ e. not_in_triggers ts e) h

    not_in : (p : FormulaData) → formula_clear low high p ≡ true → free_in k p ≡ false
    not_in (CompareFormula o a b) h =
        two (term_clear low high a) (term_clear low high b) (free_in_term k a) (free_in_term k b) (λ e. not_in_term a e) (λ e. not_in_term b e) h
    not_in (IsFormula s a) h = not_in_term a h
    not_in (HoldsFormula a) h = not_in_term a h
    not_in (NotFormula p) h = not_in p h
    not_in (JoinFormula o ps) h = not_in_all ps h
    not_in (ConnectFormula o p q) h =
        two (formula_clear low high p) (formula_clear low high q) (free_in k p) (free_in k q) (λ e. not_in p e) (λ e. not_in q e) h
    not_in (QuantifyFormula o n ts p) h =
        let outer = both_true (is_outside low high n) (triggers_clear low high ts && formula_clear low high p) h in
        not_inside (not (k == n)) (free_in_triggers k ts || free_in k p) (two (triggers_clear low high ts) (formula_clear low high p) (free_in_triggers k ts) (free_in k p) (λ e. not_in_triggers ts e) (λ e. not_in p e) outer.1)

    not_in_all : (ps : FormulasData) → formulas_clear low high ps ≡ true → free_in_formulas k ps ≡ false
    not_in_all NoFormulas h = refl
    not_in_all (MoreFormulas p ps) h =
        two (formula_clear low high p) (formulas_clear low high ps) (free_in k p) (free_in_formulas k ps) (λ e. not_in p e) (λ e. not_in_all ps e) h

-- ---- binders that keep their number or get one of the block

module _ (low high x : ℕ) (t : TermData) (clear : term_clear low high t ≡ true) where
  -- a binder keeps its number only if it is not free in the term
  record Kept (b : ℕ × ℕ) : Type 0 where
    same : b.1 ≡ b.0
    apart : (b.0 < low) ⊎ (high ≤ b.0)
    free : free_in_term b.0 t ≡ false

  -- the numbers of the block that renamed binders have are below m, and increase inwards
  abbrev Renamed : ℕ → List (ℕ × ℕ) → Type 0
  Renamed m [] = Unit {0}
  Renamed m (b ∷ bs) = (Kept b × Renamed m bs) ⊎ ((low ≤ b.1) × (b.1 < m) × Renamed b.1 bs)

  weaker : (bs : List (ℕ × ℕ)) (m n : ℕ) → m ≤ n → Renamed m bs → Renamed n bs
  weaker [] m n h r = tt
  weaker (b ∷ bs) m n h (inl r) = inl (r.0, weaker bs m n h r.1)
  weaker (b ∷ bs) m n h (inr r) = inr (r.0, omega (arith, r.1), r.2)

  -- a number is not free in the term that replaces a variable
  not_put : (bs : List (ℕ × ℕ)) (m k n : ℕ) → Renamed m bs → (k ≡ n → ⊥) → free_in_term k t ≡ false → (k < low) ⊎ (m ≤ k) → free_in_term k (put_for bs x t n) ≡ false
  not_put [] m k n r differ free beyond = go (n == x)
    where
      go : (c : Bool) → free_in_term k (cond c t (VarTerm n)) ≡ false
      go true = free
      go false = ne_eqb k n differ
  not_put (b ∷ bs) m k n r differ free beyond = go (n == b.0) refl r (λ l s d. not_put bs l k n s differ free d)
    where
      differs : (k < low) ⊎ (m ≤ k) → low ≤ b.1 → b.1 < m → k ≡ b.1 → ⊥
      differs (inl h) l u e = absurd (omega arith)
      differs (inr h) l u e = absurd (omega arith)

      below : (k < low) ⊎ (m ≤ k) → b.1 < m → (k < low) ⊎ (b.1 ≤ k)
      below (inl h) u = inl h
      below (inr h) u = inr (omega arith)

      go : (c : Bool) → n == b.0 ≡ c → (Kept b × Renamed m bs) ⊎ ((low ≤ b.1) × (b.1 < m) × Renamed b.1 bs) → ((l : ℕ) → Renamed l bs → (k < low) ⊎ (l ≤ k) → free_in_term k (put_for bs x t n) ≡ false) → free_in_term k (cond c (VarTerm b.1) (put_for bs x t n)) ≡ false
      go true e (inl s) further = ne_eqb k b.1 (λ h. differ (h ∙ s.0.same ∙ sym (eqb-true n b.0 e)))
      go true e (inr s) further = ne_eqb k b.1 (differs beyond s.0 s.1)
      go false e (inl s) further = further m s.1 beyond
      go false e (inr s) further = further b.1 s.2 (below beyond s.1)

  stands : (bs : List (ℕ × ℕ)) (m n : ℕ) → m ≤ high → Renamed m bs → (n < low) ⊎ (high ≤ n) → StandsFor bs x t n (put_for bs x t n)
  stands [] m n h r clear_n = refl
  stands (b ∷ bs) m n h r clear_n = go (n == b.0) refl r (λ l d s. stands bs l n d s clear_n)
    where
      differs : (n < low) ⊎ (high ≤ n) → low ≤ b.1 → b.1 < m → b.1 ≡ n → ⊥
      differs (inl d) l u e = absurd (omega arith)
      differs (inr d) l u e = absurd (omega arith)

      beyond : b.1 ≡ b.0 → (b.0 < low) ⊎ (high ≤ b.0) → (b.1 < low) ⊎ (m ≤ b.1)
      beyond e (inl d) = inl (omega arith)
      beyond e (inr d) = inr (omega arith)

      go : (c : Bool) → n == b.0 ≡ c → (Kept b × Renamed m bs) ⊎ ((low ≤ b.1) × (b.1 < m) × Renamed b.1 bs) → ((l : ℕ) → l ≤ high → Renamed l bs → StandsFor bs x t n (put_for bs x t n)) → Either c (cond c (VarTerm b.1) (put_for bs x t n) ≡ VarTerm b.1) ((free_in_term b.1 (cond c (VarTerm b.1) (put_for bs x t n)) ≡ false) × StandsFor bs x t n (cond c (VarTerm b.1) (put_for bs x t n)))
      go true e s further = refl
      go false e (inl s) further = (
        not_put bs m b.1 n s.1 (λ d. eqb-false n b.0 e (sym d ∙ s.0.same)) (ap (λ j. free_in_term j t) s.0.same ∙ s.0.free) (beyond s.0.same s.0.apart),
        further m h s.1,
      )
      go false e (inr s) further = (
        not_put bs b.1 b.1 n s.2 (differs clear_n s.0 s.1) (not_in_term low high b.1 s.0 (omega (arith, s.1)) t clear) (inr (omega arith)),
        further b.1 (omega (arith, s.1)) s.2,
      )

  -- one more binder
  inside : (bs : List (ℕ × ℕ)) (next n : ℕ) → low ≤ next → Renamed next bs → is_outside low high n ≡ true → Renamed (next + 1) ((n, number_for t next n) ∷ bs)
  inside bs next n l r e = go (free_in_term n t) refl
    where
      go : (c : Bool) → free_in_term n t ≡ c → (Kept (n, cond c next n) × Renamed (next + 1) bs) ⊎ ((low ≤ cond c next n) × (cond c next n < next + 1) × Renamed (cond c next n) bs)
      go true f = inr (l, omega arith, r)
      go false f = inl (record { same = refl; apart = outside low high n e; free = f }, weaker bs next (next + 1) (omega arith) r)

  mutual
    term_made : (a : TermData) (bs : List (ℕ × ℕ)) (next : ℕ) → low ≤ next → next + term_depth a ≤ high → Renamed next bs → term_clear low high a ≡ true → IsTermInstance bs x t a (replaced_term bs next x t a)
    term_made (VarTerm n) bs next l h r e = stands bs next n (omega (arith, h)) r (outside low high n e)
    term_made (ConstantTerm c) bs next l h r e = refl
    term_made (UnaryTerm o a) bs next l h r e = (refl, term_made a bs next l (omega (arith, h)) r e)
    term_made (BinaryTerm o a b) bs next l h r e =
        let both = both_true (term_clear low high a) (term_clear low high b) e in
        (refl, term_made a bs next l (omega (arith, h)) r both.0, term_made b bs next l (omega (arith, h)) r both.1)
    term_made (TernaryTerm o a b c) bs next l h r e =
        let first = both_true (term_clear low high a) (term_clear low high b && term_clear low high c) e in
        let both = both_true (term_clear low high b) (term_clear low high c) first.1 in
        (refl, term_made a bs next l (omega (arith, h)) r first.0, term_made b bs next l (omega (arith, h)) r both.0, term_made c bs next l (omega (arith, h)) r both.1)
    term_made (PackTerm s ts) bs next l h r e = (refl, terms_made ts bs next l (omega (arith, h)) r e)
    term_made (FieldTerm s k a) bs next l h r e = (refl, refl, term_made a bs next l (omega (arith, h)) r e)
    term_made (SetFieldTerm s k a b) bs next l h r e =
        let both = both_true (term_clear low high a) (term_clear low high b) e in
        (refl, refl, term_made a bs next l (omega (arith, h)) r both.0, term_made b bs next l (omega (arith, h)) r both.1)
    term_made (IfTerm p a b) bs next l h r e =
        let first = both_true (formula_clear low high p) (term_clear low high a && term_clear low high b) e in
        let both = both_true (term_clear low high a) (term_clear low high b) first.1 in
        (made p bs next l (omega (arith, h)) r first.0, term_made a bs next l (omega (arith, h)) r both.0, term_made b bs next l (omega (arith, h)) r both.1)

    terms_made : (ts : TermsData) (bs : List (ℕ × ℕ)) (next : ℕ) → low ≤ next → next + terms_depth ts ≤ high → Renamed next bs → terms_clear low high ts ≡ true → AreTermInstances bs x t ts (replaced_terms bs next x t ts)
    terms_made NoTerms bs next l h r e = tt
    terms_made (MoreTerms a ts) bs next l h r e =
        let both = both_true (term_clear low high a) (terms_clear low high ts) e in
        (term_made a bs next l (omega (arith, h)) r both.0, terms_made ts bs next l (omega (arith, h)) r both.1)

    triggers_made : (ts : TriggersData) (bs : List (ℕ × ℕ)) (next : ℕ) → low ≤ next → next + triggers_depth ts ≤ high → Renamed next bs → triggers_clear low high ts ≡ true → AreTriggerInstances bs x t ts (replaced_triggers bs next x t ts)
    triggers_made NoTriggers bs next l h r e = tt
    triggers_made (MoreTriggers a ts) bs next l h r e =
        let both = both_true (terms_clear low high a) (triggers_clear low high ts) e in
        (terms_made a bs next l (omega (arith, h)) r both.0, triggers_made ts bs next l (omega (arith, h)) r both.1)

    made : (p : FormulaData) (bs : List (ℕ × ℕ)) (next : ℕ) → low ≤ next → next + formula_depth p ≤ high → Renamed next bs → formula_clear low high p ≡ true → IsInstanceUnder bs x t p (replaced bs next x t p)
    made (CompareFormula o a b) bs next l h r e =
        let both = both_true (term_clear low high a) (term_clear low high b) e in
        (refl, term_made a bs next l (omega (arith, h)) r both.0, term_made b bs next l (omega (arith, h)) r both.1)
    made (IsFormula s a) bs next l h r e = (refl, term_made a bs next l (omega (arith, h)) r e)
    made (HoldsFormula a) bs next l h r e = term_made a bs next l (omega (arith, h)) r e
    made (NotFormula p) bs next l h r e = made p bs next l (omega (arith, h)) r e
    made (JoinFormula o ps) bs next l h r e = (refl, all_made ps bs next l (omega (arith, h)) r e)
    made (ConnectFormula o p q) bs next l h r e =
        let both = both_true (formula_clear low high p) (formula_clear low high q) e in
        (refl, made p bs next l (omega (arith, h)) r both.0, made q bs next l (omega (arith, h)) r both.1)
    made (QuantifyFormula o n ts p) bs next l h r e =
        let first = both_true (is_outside low high n) (triggers_clear low high ts && formula_clear low high p) e in
        let both = both_true (triggers_clear low high ts) (formula_clear low high p) first.1 in
        let more = inside bs next n l r first.0 in
        (refl, triggers_made ts ((n, number_for t next n) ∷ bs) (next + 1) (omega arith) (omega (arith, h)) more both.0, made p ((n, number_for t next n) ∷ bs) (next + 1) (omega arith) (omega (arith, h)) more both.1)

    all_made : (ps : FormulasData) (bs : List (ℕ × ℕ)) (next : ℕ) → low ≤ next → next + formulas_depth ps ≤ high → Renamed next bs → formulas_clear low high ps ≡ true → AreInstances bs x t ps (replaced_all bs next x t ps)
    all_made NoFormulas bs next l h r e = tt
    all_made (MoreFormulas p ps) bs next l h r e =
        let both = both_true (formula_clear low high p) (formulas_clear low high ps) e in
        (made p bs next l (omega (arith, h)) r both.0, all_made ps bs next l (omega (arith, h)) r both.1)

-- the substitution gives an instance if the depth of the formula fits a block of unused numbers, to which binders are
-- renamed
pub replaced_instance : (low high x : ℕ) (t : TermData) (p : FormulaData) → AreUnused low high p t → low + formula_depth p ≤ high → IsInstance x t p (replaced [] low x t p)
replaced_instance low high x t p u h = made low high x t u.term p [] low (omega arith) h tt u.formula

pub replaced_truth : (low high x : ℕ) (t : TermData) (p : FormulaData) → AreUnused low high p t → low + formula_depth p ≤ high → IsTrueAlike x t p (replaced [] low x t p)
replaced_truth low high x t p u h = instance_truth x t p (replaced [] low x t p) (replaced_instance low high x t p u h)
