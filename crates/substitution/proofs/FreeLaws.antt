-- A variable occurs free in a list if it does in its first item or in the rest. The value of a term and the truth of a
-- formula depend on its free variables alone.
use Rattle.std.proofs.Common.{◌≡◌, ℕ, ◌+◌, ◌<◌, Bool, true, false, not, cond, ◌&&◌, ◌||◌, ◌==◌, List, length, get_or, drop, refl, sym, ap, ◌∙◌, add-one, drop-cons}
use mathlib.Core.Path.{fun_ext}
use Rattle.std.proofs.lemmas.Bool.{eqb-true, eq-eqb}
use Rattle.fol.specs.declared.operators.Junction.TheVariants.{AllOf, AnyOf}
use Rattle.fol.specs.FormulaData.{TermData, VarTerm, ConstantTerm, UnaryTerm, BinaryTerm, TernaryTerm, PackTerm, FieldTerm, SetFieldTerm, IfTerm, TermsData, NoTerms, MoreTerms, FormulaData, CompareFormula, IsFormula, HoldsFormula, NotFormula, JoinFormula, ConnectFormula, QuantifyFormula, FormulasData, NoFormulas, MoreFormulas, terms_of, triggers_of, formulas_of}
use Rattle.fol.specs.Operators.{unary_value, binary_value, ternary_value, field_value, set_field_value, compared, is_true}
use Rattle.fol.specs.TypedValue.{put_types, has_type}
use Rattle.fol.specs.Val.{Val, StructValue, MoreValues}
use Rattle.fol.specs.Truth.{Interpretation, Assignment, set_var, value_of, values_of_terms, truth_of, all_true, any_true, connected, quantified}
use Rattle.base.proofs.TruthValues.{apart}
use Rattle.substitution.specs.Free.{free_in_term, free_in_terms, free_in_triggers, free_in, free_in_formulas}

pub free_in_terms_drop : (n : ℕ) (xs : List TermData) (i : ℕ) (d : TermData) → i < length xs → free_in_terms n (terms_of (drop i xs)) ≡ free_in_term n (get_or xs i d) || free_in_terms n (terms_of (drop (i + 1) xs))
free_in_terms_drop n xs i d h = rw (add-one, drop-cons xs i d)

pub free_in_triggers_drop : (n : ℕ) (xs : List TermsData) (i : ℕ) (d : TermsData) → i < length xs → free_in_triggers n (triggers_of (drop i xs)) ≡ free_in_terms n (get_or xs i d) || free_in_triggers n (triggers_of (drop (i + 1) xs))
free_in_triggers_drop n xs i d h = rw (add-one, drop-cons xs i d)

pub free_in_formulas_drop : (n : ℕ) (xs : List FormulaData) (i : ℕ) (d : FormulaData) → i < length xs → free_in_formulas n (formulas_of (drop i xs)) ≡ free_in n (get_or xs i d) || free_in_formulas n (formulas_of (drop (i + 1) xs))
free_in_formulas_drop n xs i d h = rw (add-one, drop-cons xs i d)

-- ---- the coincidence lemma

pub eqb_itself : (n : ℕ) → n == n ≡ true
eqb_itself n = eq-eqb n n refl

-- the assignments agree on the variables that satisfy the test
abbrev pub Agree : (ℕ → Bool) → Assignment → Assignment → Type 0
Agree test s r = (n : ℕ) → test n ≡ true → s n ≡ r n

first_of : (f g : ℕ → Bool) (s r : Assignment) → Agree (λ n. f n || g n) s r → Agree f s r
first_of f g s r h n e = h n (ap (λ b. b || g n) e)

second_of : (f g : ℕ → Bool) (s r : Assignment) → Agree (λ n. f n || g n) s r → Agree g s r
second_of f g s r h n e = h n (go (f n) (g n) e)
  where
    go : (a b : Bool) → b ≡ true → a || b ≡ true
    go true b e = refl
    go false b e = e

-- with the same value for the bound variable, the assignments agree on it too
inside : (f g : ℕ → Bool) (s r : Assignment) (k : ℕ) → Agree (λ n. not (n == k) && (f n || g n)) s r → (v : Val) → Agree g (set_var s k v) (set_var r k v)
inside f g s r k h v n e = go (n == k) refl
  where
    late : (a b : Bool) → b ≡ true → a || b ≡ true
    late true b e = refl
    late false b e = e

    go : (b : Bool) → n == k ≡ b → set_var s k v n ≡ set_var r k v n
    go true t = ap (λ b. cond b v (s n)) t ∙ sym (ap (λ b. cond b v (r n)) t)
    go false t = ap (λ b. cond b v (s n)) t ∙ h n (ap (λ b. not b && (f n || g n)) t ∙ late (f n) (g n) e) ∙ sym (ap (λ b. cond b v (r n)) t)

module _ (m : Interpretation) where
  mutual
    pub same_value_of : (t : TermData) (s r : Assignment) → Agree (λ n. free_in_term n t) s r → value_of m t s ≡ value_of m t r
    same_value_of (VarTerm k) s r h = h k (eqb_itself k)
    same_value_of (ConstantTerm c) s r h = refl
    same_value_of (UnaryTerm o t) s r h = ap (unary_value o) (same_value_of t s r h)
    same_value_of (BinaryTerm o t u) s r h = λ i. binary_value o (same_value_of t s r (first_of (λ n. free_in_term n t) (λ n. free_in_term n u) s r h) i) (same_value_of u s r (second_of (λ n. free_in_term n t) (λ n. free_in_term n u) s r h) i)
    same_value_of (TernaryTerm o t u v) s r h =
        λ i. ternary_value o (same_value_of t s r (first_of (λ n. free_in_term n t) (λ n. free_in_term n u || free_in_term n v) s r h) i) (same_value_of u s r (first_of (λ n. free_in_term n u) (λ n. free_in_term n v) s r (second_of (λ n. free_in_term n t) (λ n. free_in_term n u || free_in_term n v) s r h)) i) (same_value_of v s r (second_of (λ n. free_in_term n u) (λ n. free_in_term n v) s r (second_of (λ n. free_in_term n t) (λ n. free_in_term n u || free_in_term n v) s r h)) i)
    same_value_of (PackTerm a ts) s r h = ap (StructValue (put_types m.named a)) (same_values_of ts s r h)
    same_value_of (FieldTerm a k t) s r h = ap (field_value (put_types m.named a) k) (same_value_of t s r h)
    same_value_of (SetFieldTerm a k t u) s r h =
        λ i. set_field_value (put_types m.named a) k (same_value_of t s r (first_of (λ n. free_in_term n t) (λ n. free_in_term n u) s r h) i) (same_value_of u s r (second_of (λ n. free_in_term n t) (λ n. free_in_term n u) s r h) i)
    same_value_of (IfTerm p t u) s r h =
        λ i. cond (same_truth_of p s r (first_of (λ n. free_in n p) (λ n. free_in_term n t || free_in_term n u) s r h) i) (same_value_of t s r (first_of (λ n. free_in_term n t) (λ n. free_in_term n u) s r (second_of (λ n. free_in n p) (λ n. free_in_term n t || free_in_term n u) s r h)) i) (same_value_of u s r (second_of (λ n. free_in_term n t) (λ n. free_in_term n u) s r (second_of (λ n. free_in n p) (λ n. free_in_term n t || free_in_term n u) s r h)) i)

    same_values_of : (ts : TermsData) (s r : Assignment) → Agree (λ n. free_in_terms n ts) s r → values_of_terms m ts s ≡ values_of_terms m ts r
    same_values_of NoTerms s r h = refl
    same_values_of (MoreTerms t ts) s r h = λ i. MoreValues (same_value_of t s r (first_of (λ n. free_in_term n t) (λ n. free_in_terms n ts) s r h) i) (same_values_of ts s r (second_of (λ n. free_in_term n t) (λ n. free_in_terms n ts) s r h) i)

    pub same_truth_of : (p : FormulaData) (s r : Assignment) → Agree (λ n. free_in n p) s r → truth_of m p s ≡ truth_of m p r
    same_truth_of (CompareFormula o t u) s r h = λ i. compared o (same_value_of t s r (first_of (λ n. free_in_term n t) (λ n. free_in_term n u) s r h) i) (same_value_of u s r (second_of (λ n. free_in_term n t) (λ n. free_in_term n u) s r h) i)
    same_truth_of (IsFormula a t) s r h = ap (has_type m.shapes (put_types m.named a)) (same_value_of t s r h)
    same_truth_of (HoldsFormula t) s r h = ap is_true (same_value_of t s r h)
    same_truth_of (NotFormula p) s r h = ap not (same_truth_of p s r h)
    same_truth_of (JoinFormula AllOf ps) s r h = same_all_true ps s r h
    same_truth_of (JoinFormula AnyOf ps) s r h = same_any_true ps s r h
    same_truth_of (ConnectFormula o p q) s r h = λ i. connected o (same_truth_of p s r (first_of (λ n. free_in n p) (λ n. free_in n q) s r h) i) (same_truth_of q s r (second_of (λ n. free_in n p) (λ n. free_in n q) s r h) i)
    same_truth_of (QuantifyFormula o k ts p) s r h =
        ap (quantified o m.all) (fun_ext (λ v. same_truth_of p (set_var s k v) (set_var r k v) (inside (λ n. free_in_triggers n ts) (λ n. free_in n p) s r k h v)))

    same_all_true : (ps : FormulasData) (s r : Assignment) → Agree (λ n. free_in_formulas n ps) s r → all_true m ps s ≡ all_true m ps r
    same_all_true NoFormulas s r h = refl
    same_all_true (MoreFormulas p ps) s r h = λ i. same_truth_of p s r (first_of (λ n. free_in n p) (λ n. free_in_formulas n ps) s r h) i && same_all_true ps s r (second_of (λ n. free_in n p) (λ n. free_in_formulas n ps) s r h) i

    same_any_true : (ps : FormulasData) (s r : Assignment) → Agree (λ n. free_in_formulas n ps) s r → any_true m ps s ≡ any_true m ps r
    same_any_true NoFormulas s r h = refl
    same_any_true (MoreFormulas p ps) s r h = λ i. same_truth_of p s r (first_of (λ n. free_in n p) (λ n. free_in_formulas n ps) s r h) i || same_any_true ps s r (second_of (λ n. free_in n p) (λ n. free_in_formulas n ps) s r h) i

  -- a change of the value of a variable that is not free changes nothing
  pub same_without : (t : TermData) (s : Assignment) (k : ℕ) (v : Val) → free_in_term k t ≡ false → value_of m t (set_var s k v) ≡ value_of m t s
  same_without t s k v fresh = same_value_of t (set_var s k v) s (λ n e. go n e (n == k) refl)
    where
      go : (n : ℕ) → free_in_term n t ≡ true → (b : Bool) → n == k ≡ b → set_var s k v n ≡ s n
      go n e true t' = absurd (apart (free_in_term n t) e (ap (λ j. free_in_term j t) (eqb-true n k t') ∙ fresh))
      go n e false t' = ap (λ b. cond b v (s n)) t'
