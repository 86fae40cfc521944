-- A formula that has a certificate is valid.
use Rattle.std.proofs.Common.{◌≡◌, ℕ, ℤ, pos, ◌+ℤ◌, zero, suc, List, [], ◌∷◌, ◌++◌, map, Some, Bool, true, false, not, cond, inl, inr, ◌&&◌, ◌||◌, ◌==◌, slice_get, refl, sym, ap, ◌∙◌, subst, arith}
use Rattle.std.specs.Prelude.{IsTrue, int_le}
use Rattle.std.proofs.lemmas.Bool.{eqb-true}
use Rattle.std.proofs.lemmas.Int.{ints}
use Rattle.fol.specs.declared.operators.Comparison.TheVariants.{Eq}
use Rattle.fol.specs.declared.operators.Connective.TheVariants.{Iff, Implies}
use Rattle.fol.specs.declared.operators.Constant.TheVariants.{False}
use Rattle.fol.specs.declared.operators.Junction.TheVariants.{AllOf, AnyOf}
use Rattle.fol.specs.declared.operators.Quantifier.{Quantifier}
use Rattle.fol.specs.declared.operators.Quantifier.TheVariants.{ForAll, Exists}
use Rattle.fol.specs.FormulaData.{TermData, VarTerm, TriggersData, QuantifyFormula, FormulaData, HoldsFormula, NotFormula, FormulasData, NoFormulas, MoreFormulas, list_of_formulas, CompareFormula, ConnectFormula, ConstantTerm, JoinFormula}
use Rattle.fol.specs.declared.shapes.Shape.{Shape}
use Rattle.fol.specs.Validity.{AnswersRight, Reads, Valid}
use Rattle.fol.specs.Operators.{number_of}
use Rattle.fol.specs.Val.{Val, same_value, same_value_itself, same_value-equal}
use Rattle.fol.specs.Truth.{Interpretation, Assignment, set_var, value_of, truth_of, all_true, any_true, same_truth}
use Rattle.certificates.specs.CertData.{StepData, PartsStep, AxiomStep, InstanceStep, NameStep, RewriteStep, CloseData, LinearClose, ClashClose, FalseClose, MoveData, StraightMove, ForkedMove, ClosedMove}
use Rattle.certificates.specs.declared.certificate.Cause.{Cause}
use Rattle.certificates.specs.declared.certificate.Cause.TheVariants.{Split, Cut, Bound}
use Rattle.certificates.specs.Parts.{parts_of, parts_of_negated, cases_of, cases_of_negated, both_of}
use Rattle.certificates.specs.Closes.{added, IsAllowed, IsFork, IsClose, OpenData, IsMove, left_of, IsFalseForm, Closes, Certifies}
use Rattle.certificates.specs.Quantified.{IsBodyWith, IsNegatedBodyWith, IsNew}
use Rattle.certificates.specs.Rewriting.{IsReplaced, IsRewriting}
use Rattle.substitution.specs.Free.{free_in, free_in_triggers}
use Rattle.substitution.specs.Instances.{IsInstance}
use Rattle.substitution.proofs.FreeLaws.{eqb_itself, same_truth_of}
use Rattle.substitution.proofs.InstanceTruth.{instance_truth}
use Rattle.base.proofs.TruthValues.{both_true, not_either, not_not, true_not, true_is, never, never_both, apart, either_false}
use Rattle.axioms.specs.Axioms.{IsAxiom}
use Rattle.axioms.specs.declared.axiom.Axiom.{Axiom}
use Rattle.axioms.proofs.AxiomTruth.{axiom_valid}
use Rattle.certificates.proofs.RowTruth.{AreTrue, contradiction_false}

module _ (m : Interpretation) (s : Assignment) where
  -- each formula of a list is true
  abbrev pub EachTrue : List FormulaData → Type 0
  EachTrue [] = Unit {0}
  EachTrue (p ∷ ps) = (truth_of m p s ≡ true) × EachTrue ps

  each_true-get : (ps : List FormulaData) → EachTrue ps → AreTrue m s ps
  each_true-get [] t k p e = absurd (cc)
  each_true-get (q ∷ qs) t zero p e = let same : q ≡ p = cc in subst (λ x. truth_of m x s ≡ true) same t.0
  each_true-get (q ∷ qs) t (suc k) p e = each_true-get qs t.1 k p e

  each_true-append : (ps qs : List FormulaData) → EachTrue ps → EachTrue qs → EachTrue (ps ++ qs)
  each_true-append [] qs t u = u
  each_true-append (p ∷ ps) qs t u = (t.0, each_true-append ps qs t.1 u)

  -- ---- parts

  all_parts : (ps : FormulasData) → all_true m ps s ≡ true → EachTrue (list_of_formulas ps)
  all_parts NoFormulas e = tt
  all_parts (MoreFormulas p ps) e =
      let both = both_true (truth_of m p s) (all_true m ps s) e in
      (both.0, all_parts ps both.1)

  any_parts : (ps : FormulasData) → not (any_true m ps s) ≡ true → EachTrue (map NotFormula (list_of_formulas ps))
  any_parts NoFormulas e = tt
  any_parts (MoreFormulas p ps) e =
      let both = not_either (truth_of m p s) (any_true m ps s) e in
      (both.0, any_parts ps both.1)

  implies_parts : (a b : Bool) → not (not a || b) ≡ true → (a ≡ true) × (not b ≡ true)
  implies_parts true b e = (refl, e)
  implies_parts false b e = absurd (cc)

  these : (ps qs : List FormulaData) → EachTrue ps → Some ps ≡ Some qs → EachTrue qs
  these ps qs t e = let same : ps ≡ qs = cc in subst EachTrue same t

  negated_parts : (p : FormulaData) (ps : List FormulaData) → parts_of_negated p ≡ Some ps → not (truth_of m p s) ≡ true → EachTrue ps
  negated_parts (JoinFormula AnyOf qs) ps e t = these _ ps (any_parts qs t) e
  negated_parts (ConnectFormula Implies p q) ps e t =
      let both = implies_parts (truth_of m p s) (truth_of m q s) t in
      these (p ∷ NotFormula q ∷ []) ps (both.0, (both.1, tt)) e
  negated_parts (NotFormula p) ps e t = these (p ∷ []) ps (not_not (truth_of m p s) t, tt) e
  negated_parts p ps e t = absurd (cc)

  -- the parts of a true formula are true
  parts_true : (p : FormulaData) (ps : List FormulaData) → parts_of p ≡ Some ps → truth_of m p s ≡ true → EachTrue ps
  parts_true (JoinFormula AllOf qs) ps e t = these _ ps (all_parts qs t) e
  parts_true (NotFormula p) ps e t = negated_parts p ps e t
  parts_true p ps e t = absurd (cc)

  -- ---- cases

  -- some formula of a list is true
  abbrev some_true : List FormulaData → Bool
  some_true [] = false
  some_true (p ∷ ps) = truth_of m p s || some_true ps

  either : (a b c : Bool) → (b ≡ true → c ≡ true) → a || b ≡ true → a || c ≡ true
  either true b c f e = refl
  either false b c f e = f e

  any_cases : (ps : FormulasData) → any_true m ps s ≡ true → some_true (list_of_formulas ps) ≡ true
  any_cases NoFormulas e = e
  any_cases (MoreFormulas p ps) e = either (truth_of m p s) (any_true m ps s) _ (any_cases ps) e

  not_all : (a b c : Bool) → (not b ≡ true → c ≡ true) → not (a && b) ≡ true → not a || c ≡ true
  not_all true b c f e = f e
  not_all false b c f e = refl

  all_cases : (ps : FormulasData) → not (all_true m ps s) ≡ true → some_true (map NotFormula (list_of_formulas ps)) ≡ true
  all_cases NoFormulas e = e
  all_cases (MoreFormulas p ps) e = not_all (truth_of m p s) (all_true m ps s) _ (all_cases ps) e

  implies_cases : (a b : Bool) → not a || b ≡ true → not a || (b || false) ≡ true
  implies_cases true true e = refl
  implies_cases true false e = e
  implies_cases false b e = refl

  iff_cases : (a b : Bool) → same_truth a b ≡ true → (a && (b && true)) || (((not a) && ((not b) && true)) || false) ≡ true
  iff_cases true true e = refl
  iff_cases true false e = e
  iff_cases false true e = e
  iff_cases false false e = refl

  not_iff_cases : (a b : Bool) → not (same_truth a b) ≡ true → (a && ((not b) && true)) || (((not a) && (b && true)) || false) ≡ true
  not_iff_cases true true e = e
  not_iff_cases true false e = refl
  not_iff_cases false true e = refl
  not_iff_cases false false e = e

  one_of : (ps qs : List FormulaData) → some_true ps ≡ true → Some ps ≡ Some qs → some_true qs ≡ true
  one_of ps qs t e = let same : ps ≡ qs = cc in subst (λ x. some_true x ≡ true) same t

  negated_cases : (p : FormulaData) (ps : List FormulaData) → cases_of_negated p ≡ Some ps → not (truth_of m p s) ≡ true → some_true ps ≡ true
  negated_cases (JoinFormula AllOf qs) ps e t = one_of _ ps (all_cases qs t) e
  negated_cases (ConnectFormula Iff p q) ps e t =
      one_of (both_of p (NotFormula q) ∷ both_of (NotFormula p) q ∷ []) ps (not_iff_cases (truth_of m p s) (truth_of m q s) t) e
  negated_cases p ps e t = absurd (cc)

  -- some case of a true formula is true
  cases_true : (p : FormulaData) (ps : List FormulaData) → cases_of p ≡ Some ps → truth_of m p s ≡ true → some_true ps ≡ true
  cases_true (JoinFormula AnyOf qs) ps e t = one_of _ ps (any_cases qs t) e
  cases_true (ConnectFormula Implies p q) ps e t =
      one_of (NotFormula p ∷ q ∷ []) ps (implies_cases (truth_of m p s) (truth_of m q s) t) e
  cases_true (ConnectFormula Iff p q) ps e t =
      one_of (both_of p q ∷ both_of (NotFormula p) (NotFormula q) ∷ []) ps (iff_cases (truth_of m p s) (truth_of m q s) t) e
  cases_true (NotFormula p) ps e t = negated_cases p ps e t
  cases_true p ps e t = absurd (cc)

  -- ---- branches

  -- an entry that is false by its form is not true
  false_form : (p : FormulaData) → IsFalseForm p → truth_of m p s ≡ true → ⊥
  false_form (JoinFormula AnyOf NoFormulas) h e = absurd (cc)
  false_form (HoldsFormula (ConstantTerm False)) h e = absurd (cc)
  false_form (NotFormula (JoinFormula AllOf NoFormulas)) h e = absurd (cc)
  false_form (NotFormula (CompareFormula Eq t u)) h e =
      never_both (same_value (value_of m t s) (value_of m u s)) (subst (λ x. same_value (value_of m t s) (value_of m x s) ≡ true) h (same_value_itself (value_of m t s))) e
  false_form p h e = absurd h

-- ---- quantified entries

excluded : (a : Bool) → a || (not a || false) ≡ true
excluded true = refl
excluded false = refl

two_ways : (a k : ℤ) (l g : Bool) → int_le a k ≡ l → int_le (k +ℤ pos 1) a ≡ g → l || (g || false) ≡ true
two_ways a k true g e f = refl
two_ways a k false true e f = refl
two_ways a k false false e f = absurd (two a k e f)
  where
    two : (a k : ℤ) → int_le a k ≡ false → int_le (k +ℤ pos 1) a ≡ false → ⊥
    two a k e f = grind (arith, ints)

-- a change of the value of a variable that is not free changes nothing
same_truth_without : (m : Interpretation) (p : FormulaData) (s : Assignment) (v : ℕ) (x : Val) → free_in v p ≡ false → truth_of m p (set_var s v x) ≡ truth_of m p s
same_truth_without m p s v x fresh = same_truth_of m p (set_var s v x) s (λ n e. go n e (n == v) refl)
  where
    go : (n : ℕ) → free_in n p ≡ true → (b : Bool) → n == v ≡ b → set_var s v x n ≡ s n
    go n e true t = absurd (apart (free_in n p) e (ap (λ j. free_in j p) (eqb-true n v t) ∙ fresh))
    go n e false t = ap (λ b. cond b x (s n)) t

-- a variable that is not free in the quantified formula may have the value of the bound one
named_alike : (m : Interpretation) (o : Quantifier) (body : FormulaData) (ts : TriggersData) (s : Assignment) (v n : ℕ) (x : Val) → free_in v (QuantifyFormula o n ts body) ≡ false → truth_of m body (set_var (set_var s v x) n x) ≡ truth_of m body (set_var s n x)
named_alike m o body ts s v n x fresh = same_truth_of m body (set_var (set_var s v x) n x) (set_var s n x) (λ k e. go k e (k == n) refl (k == v) refl)
  where
    free : (a b c : Bool) → not a && (b || c) ≡ false → a ≡ false → c ≡ true → ⊥
    free true b c e f t = absurd (cc)
    free false true c e f t = absurd (cc)
    free false false c e f t = apart c t e

    go : (k : ℕ) → free_in k body ≡ true → (b : Bool) → k == n ≡ b → (c : Bool) → k == v ≡ c → set_var (set_var s v x) n x k ≡ set_var s n x k
    go k e true t c u = ap (λ b. cond b x (set_var s v x k)) t ∙ sym (ap (λ b. cond b x (s k)) t)
    go k e false t false u = ap (λ b. cond b x (set_var s v x k)) t ∙ ap (λ b. cond b x (s k)) u ∙ sym (ap (λ b. cond b x (s k)) t)
    go k e false t true u =
        let same : k ≡ v = eqb-true k v u in
        absurd (free (v == n) (free_in_triggers v ts) (free_in v body) fresh (ap (λ j. j == n) (sym same) ∙ t) (ap (λ j. free_in j body) (sym same) ∙ e))

module _ (m : Interpretation) (right : AnswersRight m.all) where
  each_of : (f : Val → Bool) → m.all f ≡ true → (x : Val) → f x ≡ true
  each_of f e x = is_true_of (f x) ((right f).0 (true_is (m.all f) e) x)
    where
      is_true_of : (b : Bool) → IsTrue b → b ≡ true
      is_true_of true h = refl
      is_true_of false h = absurd (never h)

  all_of : (f : Val → Bool) → ((x : Val) → f x ≡ true) → m.all f ≡ true
  all_of f h = is_true_of (m.all f) ((right f).1 (λ x. true_is (f x) (h x)))
    where
      is_true_of : (b : Bool) → IsTrue b → b ≡ true
      is_true_of true h = refl
      is_true_of false h = absurd (never h)

  -- a universal formula holds for the value of a term
  negated_body_true : (s : Assignment) (t : TermData) (q p : FormulaData) → IsNegatedBodyWith Exists t q p → not (truth_of m q s) ≡ true → truth_of m p s ≡ true
  negated_body_true s t (QuantifyFormula ForAll n ts body) (NotFormula p) h e = absurd (let w = h.0 in cc)
  negated_body_true s t (QuantifyFormula Exists n ts body) (NotFormula p) h e =
      let f = λ (x : Val). not (truth_of m body (set_var s n x)) in
      ap not ((instance_truth n t body p h.1).truth m s) ∙ each_of f (not_not (m.all f) e) (value_of m t s)
  negated_body_true s t q p h e = absurd h

  body_true : (s : Assignment) (t : TermData) (q p : FormulaData) → IsBodyWith ForAll t q p → truth_of m q s ≡ true → truth_of m p s ≡ true
  body_true s t (QuantifyFormula ForAll n ts body) p h e =
      (instance_truth n t body p h.1).truth m s ∙ each_of (λ (x : Val). truth_of m body (set_var s n x)) e (value_of m t s)
  body_true s t (QuantifyFormula Exists n ts body) p h e = absurd (let w = h.0 in cc)
  body_true s t (NotFormula q) p h e = negated_body_true s t q p h e
  body_true s t q p h e = absurd h

  -- an existential formula does not fail for each value of a new variable
  named : (s : Assignment) (v n : ℕ) (o : Quantifier) (ts : TriggersData) (body p : FormulaData) (x : Val) → free_in v (QuantifyFormula o n ts body) ≡ false → IsInstance n (VarTerm v) body p → truth_of m p (set_var s v x) ≡ truth_of m body (set_var s n x)
  named s v n o ts body p x fresh h =
      let itself : set_var s v x v ≡ x = ap (λ b. cond b x (s v)) (eqb_itself v) in
      (instance_truth n (VarTerm v) body p h).truth m (set_var s v x) ∙ ap (λ (y : Val). truth_of m body (set_var (set_var s v x) n y)) itself ∙ named_alike m o body ts s v n x fresh

  negated_name_false : (s : Assignment) (v : ℕ) (q p : FormulaData) → IsNegatedBodyWith ForAll (VarTerm v) q p → free_in v q ≡ false → not (truth_of m q s) ≡ true → ((x : Val) → truth_of m p (set_var s v x) ≡ true → ⊥) → ⊥
  negated_name_false s v (QuantifyFormula Exists n ts body) (NotFormula p) h fresh e f = absurd (let w = h.0 in cc)
  negated_name_false s v (QuantifyFormula ForAll n ts body) (NotFormula p) h fresh e f =
      let g = λ (x : Val). truth_of m body (set_var s n x) in
      never_both (m.all g) (all_of g (λ x. sym (named s v n ForAll ts body p x fresh h.1) ∙ not_not (truth_of m p (set_var s v x)) (true_not (not (truth_of m p (set_var s v x))) (f x)))) e
  negated_name_false s v q p h fresh e f = absurd h

  name_false : (s : Assignment) (v : ℕ) (q p : FormulaData) → IsBodyWith Exists (VarTerm v) q p → free_in v q ≡ false → truth_of m q s ≡ true → ((x : Val) → truth_of m p (set_var s v x) ≡ true → ⊥) → ⊥
  name_false s v (QuantifyFormula ForAll n ts body) p h fresh e f = absurd (let w = h.0 in cc)
  name_false s v (QuantifyFormula Exists n ts body) p h fresh e f =
      let g = λ (x : Val). not (truth_of m body (set_var s n x)) in
      never_both (m.all g) (all_of g (λ x. ap not (sym (named s v n Exists ts body p x fresh h.1)) ∙ true_not (truth_of m p (set_var s v x)) (f x))) e
  name_false s v (NotFormula q) p h fresh e f = negated_name_false s v q p h fresh e f
  name_false s v q p h fresh e f = absurd h

  -- replacement of equals by equals
  replaced_true : (s : Assignment) (x : ℕ) (c : FormulaData) (t u : TermData) (q p : FormulaData) → IsReplaced x c t u q p → value_of m t s ≡ value_of m u s → truth_of m q s ≡ true → truth_of m p s ≡ true
  replaced_true s x c t u q p h same e =
      (instance_truth x u c p h.1).truth m s ∙ ap (λ (v : Val). truth_of m c (set_var s x v)) (sym same) ∙ sym ((instance_truth x t c q h.0).truth m s) ∙ e

  rewriting_true : (s : Assignment) (x : ℕ) (c e q p : FormulaData) → IsRewriting x c e q p → truth_of m e s ≡ true → truth_of m q s ≡ true → truth_of m p s ≡ true
  rewriting_true s x c (CompareFormula Eq t u) q p (inl h) e f = replaced_true s x c t u q p h (same_value-equal (value_of m t s) (value_of m u s) e) f
  rewriting_true s x c (CompareFormula Eq t u) q p (inr h) e f = replaced_true s x c u t q p h (sym (same_value-equal (value_of m t s) (value_of m u s) e)) f
  rewriting_true s x c e q p h a f = absurd h

  -- a new variable is free in no entry, and the entries remain true for all its values
  rest_new : (v : ℕ) (p : FormulaData) (ps : List FormulaData) → IsNew v (p ∷ ps) → IsNew v ps
  rest_new v p ps h k d l = h (suc k) d (omega (arith, l))

  new_at : (v : ℕ) (ps : List FormulaData) (i : ℕ) (q : FormulaData) → IsNew v ps → slice_get ps i ≡ Some q → free_in v q ≡ false
  new_at v [] i q h e = absurd (cc)
  new_at v (p ∷ ps) zero q h e = let same : p ≡ q = cc in subst (λ x. free_in v x ≡ false) same (h 0 p (omega arith))
  new_at v (p ∷ ps) (suc i) q h e = new_at v ps i q (rest_new v p ps h) e

  stays_true : (s : Assignment) (v : ℕ) (x : Val) (ps : List FormulaData) → IsNew v ps → EachTrue m s ps → EachTrue m (set_var s v x) ps
  stays_true s v x [] h t = tt
  stays_true s v x (p ∷ ps) h t = (same_truth_without m p s v x (h 0 p (omega arith)) ∙ t.0, stays_true s v x ps (rest_new v p ps h) t.1)

-- ---- refuted branches

-- the entries are not all true
pub record IsRefuted (m : Interpretation) (b : List FormulaData) : Type 0 where
  pub none : (s : Assignment) → EachTrue m s b → ⊥

abbrev AreRefuted : Interpretation → OpenData → Type 0
AreRefuted m [] = Unit {0}
AreRefuted m (b ∷ bs) = IsRefuted m b × AreRefuted m bs

module _ (shapes : List Shape) (m : Interpretation) (reads : Reads shapes m) where
  axiom_true : (s : Assignment) (name : Axiom) (p : FormulaData) → IsAxiom shapes name p → truth_of m p s ≡ true
  axiom_true s name p h = is_true (truth_of m p s) ((axiom_valid shapes name p h).holds m reads s)
    where
      is_true : (b : Bool) → IsTrue b → b ≡ true
      is_true true h = refl
      is_true false h = absurd (never h)

  -- if a branch with the formulas that a step adds is refuted, so is the branch
  step_false : (b : List FormulaData) (step : StepData) → IsAllowed shapes b step → IsRefuted m (b ++ added step) → (s : Assignment) → EachTrue m s b → ⊥
  step_false b (PartsStep i ps) allowed f s t =
      f.none s (each_true-append m s b ps t (parts_true m s allowed.0 ps allowed.2 (each_true-get m s b t i allowed.0 allowed.1)))
  step_false b (AxiomStep name p) allowed f s t =
      f.none s (each_true-append m s b (p ∷ []) t (axiom_true s name p allowed, tt))
  step_false b (InstanceStep i u p) allowed f s t =
      f.none s (each_true-append m s b (p ∷ []) t (body_true m reads.answers_right s u allowed.0 p allowed.2 (each_true-get m s b t i allowed.0 allowed.1), tt))
  step_false b (RewriteStep i j x c p) allowed f s t =
      let equation = each_true-get m s b t i allowed.0 allowed.2 in
      let entry = each_true-get m s b t j allowed.1 allowed.3 in
      f.none s (each_true-append m s b (p ∷ []) t (rewriting_true m reads.answers_right s x c allowed.0 allowed.1 p allowed.4 equation entry, tt))
  step_false b (NameStep i v p) allowed f s t =
      let body = allowed.0 in
      let new = allowed.1 in
      name_false m reads.answers_right s v body.0 p body.2 (new_at m reads.answers_right v b i body.0 new body.1) (each_true-get m s b t i body.0 body.1) (λ x e. f.none (set_var s v x) (each_true-append m (set_var s v x) b (p ∷ []) (stays_true m reads.answers_right s v x b new t) (e, tt)))

  -- if the branches of a fork are refuted, no case is true when the branch is
  cases_false : (b ps : List FormulaData) (bs : OpenData) → AreRefuted m (map (λ p. b ++ p ∷ []) ps ++ bs) → (s : Assignment) → EachTrue m s b → some_true m s ps ≡ true → ⊥
  cases_false b [] bs f s t e = absurd (cc)
  cases_false b (p ∷ ps) bs f s t e =
      either_false (truth_of m p s) (some_true m s ps) e (λ h. f.0.none s (each_true-append m s b (p ∷ []) t (h, tt))) (cases_false b ps bs f.1 s t)

  behind_cases : (b ps : List FormulaData) (bs : OpenData) → AreRefuted m (map (λ p. b ++ p ∷ []) ps ++ bs) → AreRefuted m bs
  behind_cases b [] bs f = f
  behind_cases b (p ∷ ps) bs f = behind_cases b ps bs f.1

  -- one of the cases of a fork is true if the branch is
  fork_true : (b : List FormulaData) (cause : Cause) (ps : List FormulaData) → IsFork b cause ps → (s : Assignment) → EachTrue m s b → some_true m s ps ≡ true
  fork_true b (Split i) ps split s t = cases_true m s split.0 ps split.2 (each_true-get m s b t i split.0 split.1)
  fork_true b Cut ps cut s t = subst (λ qs. some_true m s qs ≡ true) (sym cut.1) (excluded (truth_of m cut.0 s))
  fork_true b (Bound i) ps bound s t =
      let two = bound.2 in
      subst (λ qs. some_true m s qs ≡ true) (sym two.1) (two_ways (number_of (value_of m bound.0 s)) two.0 _ _ refl refl)

  close_false : (b : List FormulaData) (by : CloseData) → IsClose b by → (s : Assignment) → EachTrue m s b → ⊥
  close_false b (LinearClose ms) h s t = contradiction_false m s b ms (each_true-get m s b t) h
  close_false b (ClashClose i j) clash s t =
      never_both (truth_of m clash.0 s) (each_true-get m s b t i clash.0 clash.1) (each_true-get m s b t j (NotFormula clash.0) clash.2)
  close_false b (FalseClose i) form s t = false_form m s form.0 form.2 (each_true-get m s b t i form.0 form.1)

  -- if the branches that a move leaves are refuted, so is the branch
  move_false : (b : List FormulaData) (move : MoveData) (bs : OpenData) → IsMove shapes b move → AreRefuted m (left_of b move ++ bs) → AreRefuted m (b ∷ bs)
  move_false b (StraightMove step) bs h f = (record { none = step_false b step h.allowed f.0 }, f.1)
  move_false b (ForkedMove cause ps) bs h f =
      (record { none = λ s t. cases_false b ps bs f s t (fork_true b cause ps h.allowed s t) }, behind_cases b ps bs f)
  move_false b (ClosedMove by) bs h f = (record { none = close_false b by h }, f)

  -- closed branches are refuted
  closes_false : (moves : List MoveData) (bs : OpenData) → Closes shapes bs moves → AreRefuted m bs
  closes_false [] bs h = subst (AreRefuted m) (sym h) tt
  closes_false (move ∷ moves) [] h = absurd h.0
  closes_false (move ∷ moves) (b ∷ bs) h = move_false b move bs h.0.0 (closes_false moves (left_of b move ++ bs) h.1)

-- a formula that has a certificate is valid under the shapes
pub certified_valid : (shapes : List Shape) (moves : List MoveData) (p : FormulaData) → Certifies shapes moves p → Valid shapes p
certified_valid shapes moves p h = record { holds = λ m reads s. by_cases m reads s (truth_of m p s) refl }
  where
    by_cases : (m : Interpretation) → Reads shapes m → (s : Assignment) (b : Bool) → truth_of m p s ≡ b → IsTrue (truth_of m p s)
    by_cases m reads s true e = true_is _ e
    by_cases m reads s false e =
        absurd ((closes_false shapes m reads moves ((NotFormula p ∷ []) ∷ []) h).0.none s (ap not e, tt))
