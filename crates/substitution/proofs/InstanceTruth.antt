-- An instance is true exactly when the body is true with the term's value for the variable.
use Rattle.std.proofs.Common.{◌≡◌, ℕ, Bool, true, false, not, cond, ◌&&◌, ◌||◌, ◌==◌, List, [], ◌∷◌, refl, sym, ap, ◌∙◌, subst}
use mathlib.Core.Path.{fun_ext}
use Rattle.fol.specs.declared.operators.Junction.TheVariants.{AllOf, AnyOf}
use Rattle.fol.specs.FormulaData.{TermData, VarTerm, ConstantTerm, UnaryTerm, BinaryTerm, TernaryTerm, PackTerm, FieldTerm, SetFieldTerm, IfTerm, TermsData, NoTerms, MoreTerms, FormulaData, CompareFormula, IsFormula, HoldsFormula, NotFormula, JoinFormula, ConnectFormula, QuantifyFormula, FormulasData, NoFormulas, MoreFormulas}
use Rattle.fol.specs.Operators.{constant_value, unary_value, binary_value, ternary_value, field_value, set_field_value, compared, is_true}
use Rattle.fol.specs.TypedValue.{put_types, has_type}
use Rattle.fol.specs.Val.{Val, StructValue, MoreValues}
use Rattle.fol.specs.Truth.{Interpretation, Assignment, set_var, value_of, values_of_terms, truth_of, all_true, any_true, connected, quantified}
use Rattle.substitution.specs.Free.{free_in_term}
use Rattle.substitution.specs.Instances.{Either, StandsFor, IsTermInstance, AreTermInstances, IsInstanceUnder, AreInstances, IsInstance, IsTrueAlike}
use Rattle.substitution.proofs.FreeLaws.{same_without, eqb_itself}

module _ (m : Interpretation) (x : ℕ) (t : TermData) where
  -- each variable of the body has the value of the term that replaces it
  abbrev Fit : List (ℕ × ℕ) → Assignment → Assignment → Type 0
  Fit bs s r = (n : ℕ) (u : TermData) → StandsFor bs x t n u → value_of m u r ≡ s n

  start : (r : Assignment) → Fit [] (set_var r x (value_of m t r)) r
  start r n u e = ap (λ a. value_of m a r) e ∙ go (n == x)
    where
      go : (b : Bool) → value_of m (cond b t (VarTerm n)) r ≡ cond b (value_of m t r) (r n)
      go true = refl
      go false = refl

  inside : (a b : ℕ) (bs : List (ℕ × ℕ)) (s r : Assignment) → Fit bs s r → (v : Val) → Fit ((a, b) ∷ bs) (set_var s a v) (set_var r b v)
  inside a b bs s r fit v n u stands = go (n == a) refl
    where
      go : (c : Bool) → n == a ≡ c → value_of m u (set_var r b v) ≡ set_var s a v n
      go true e =
          let same : u ≡ VarTerm b = subst (λ c. Either c (u ≡ VarTerm b) ((free_in_term b u ≡ false) × StandsFor bs x t n u)) e stands in
          ap (λ w. value_of m w (set_var r b v)) same ∙ ap (λ c. cond c v (r b)) (eqb_itself b) ∙ sym (ap (λ c. cond c v (s n)) e)
      go false e =
          let outer : (free_in_term b u ≡ false) × StandsFor bs x t n u = subst (λ c. Either c (u ≡ VarTerm b) ((free_in_term b u ≡ false) × StandsFor bs x t n u)) e stands in
          same_without m u r b v outer.0 ∙ fit n u outer.1 ∙ sym (ap (λ c. cond c v (s n)) e)

  mutual
    value_alike : (bs : List (ℕ × ℕ)) (a c : TermData) (s r : Assignment) → Fit bs s r → IsTermInstance bs x t a c → value_of m c r ≡ value_of m a s
    value_alike bs (VarTerm n) c s r f h = f n c h
    value_alike bs (ConstantTerm c) (ConstantTerm d) s r f h = sym (ap constant_value h)
    value_alike bs (UnaryTerm o a) (UnaryTerm p c) s r f h = λ i. unary_value (sym h.0 i) (value_alike bs a c s r f h.1 i)
    value_alike bs (BinaryTerm o a b) (BinaryTerm p c d) s r f h =
        λ i. binary_value (sym h.0 i) (value_alike bs a c s r f h.1 i) (value_alike bs b d s r f h.2 i)
    value_alike bs (TernaryTerm o a b e) (TernaryTerm p c d g) s r f h =
        λ i. ternary_value (sym h.0 i) (value_alike bs a c s r f h.1 i) (value_alike bs b d s r f h.2 i) (value_alike bs e g s r f h.3 i)
    value_alike bs (PackTerm a ts) (PackTerm b us) s r f h =
        λ i. StructValue (put_types m.named (sym h.0 i)) (values_alike bs ts us s r f h.1 i)
    value_alike bs (FieldTerm a k c) (FieldTerm b l d) s r f h =
        λ i. field_value (put_types m.named (sym h.1 i)) (sym h.0 i) (value_alike bs c d s r f h.2 i)
    value_alike bs (SetFieldTerm a k c e) (SetFieldTerm b l d g) s r f h =
        λ i. set_field_value (put_types m.named (sym h.1 i)) (sym h.0 i) (value_alike bs c d s r f h.2 i) (value_alike bs e g s r f h.3 i)
    value_alike bs (IfTerm p a b) (IfTerm q c d) s r f h =
        λ i. cond (truth_alike bs p q s r f h.0 i) (value_alike bs a c s r f h.1 i) (value_alike bs b d s r f h.2 i)
    value_alike bs a c s r f h = absurd h

    values_alike : (bs : List (ℕ × ℕ)) (as' cs : TermsData) (s r : Assignment) → Fit bs s r → AreTermInstances bs x t as' cs → values_of_terms m cs r ≡ values_of_terms m as' s
    values_alike bs NoTerms NoTerms s r f h = refl
    values_alike bs (MoreTerms a as') (MoreTerms c cs) s r f h =
        λ i. MoreValues (value_alike bs a c s r f h.0 i) (values_alike bs as' cs s r f h.1 i)
    values_alike bs as' cs s r f h = absurd h

    truth_alike : (bs : List (ℕ × ℕ)) (p q : FormulaData) (s r : Assignment) → Fit bs s r → IsInstanceUnder bs x t p q → truth_of m q r ≡ truth_of m p s
    truth_alike bs (CompareFormula o a b) (CompareFormula p c d) s r f h =
        λ i. compared (sym h.0 i) (value_alike bs a c s r f h.1 i) (value_alike bs b d s r f h.2 i)
    truth_alike bs (IsFormula a c) (IsFormula b d) s r f h =
        λ i. has_type m.shapes (put_types m.named (sym h.0 i)) (value_alike bs c d s r f h.1 i)
    truth_alike bs (HoldsFormula a) (HoldsFormula c) s r f h = ap is_true (value_alike bs a c s r f h)
    truth_alike bs (NotFormula p) (NotFormula q) s r f h = ap not (truth_alike bs p q s r f h)
    truth_alike bs (JoinFormula AllOf ps) (JoinFormula w qs) s r f h =
        sym (ap (λ o. truth_of m (JoinFormula o qs) r) h.0) ∙ all_alike bs ps qs s r f h.1
    truth_alike bs (JoinFormula AnyOf ps) (JoinFormula w qs) s r f h =
        sym (ap (λ o. truth_of m (JoinFormula o qs) r) h.0) ∙ any_alike bs ps qs s r f h.1
    truth_alike bs (ConnectFormula o p a) (ConnectFormula w q c) s r f h =
        λ i. connected (sym h.0 i) (truth_alike bs p q s r f h.1 i) (truth_alike bs a c s r f h.2 i)
    truth_alike bs (QuantifyFormula o a ts p) (QuantifyFormula w b us q) s r f h =
        let each : (λ v. truth_of m q (set_var r b v)) ≡ (λ v. truth_of m p (set_var s a v)) = fun_ext (λ v. truth_alike ((a, b) ∷ bs) p q (set_var s a v) (set_var r b v) (inside a b bs s r f v) h.2) in
        λ i. quantified (sym h.0 i) m.all (each i)
    truth_alike bs p q s r f h = absurd h

    all_alike : (bs : List (ℕ × ℕ)) (ps qs : FormulasData) (s r : Assignment) → Fit bs s r → AreInstances bs x t ps qs → all_true m qs r ≡ all_true m ps s
    all_alike bs NoFormulas NoFormulas s r f h = refl
    all_alike bs (MoreFormulas p ps) (MoreFormulas q qs) s r f h =
        λ i. truth_alike bs p q s r f h.0 i && all_alike bs ps qs s r f h.1 i
    all_alike bs ps qs s r f h = absurd h

    any_alike : (bs : List (ℕ × ℕ)) (ps qs : FormulasData) (s r : Assignment) → Fit bs s r → AreInstances bs x t ps qs → any_true m qs r ≡ any_true m ps s
    any_alike bs NoFormulas NoFormulas s r f h = refl
    any_alike bs (MoreFormulas p ps) (MoreFormulas q qs) s r f h =
        λ i. truth_alike bs p q s r f h.0 i || any_alike bs ps qs s r f h.1 i
    any_alike bs ps qs s r f h = absurd h

pub instance_truth : (x : ℕ) (t : TermData) (p q : FormulaData) → IsInstance x t p q → IsTrueAlike x t p q
instance_truth x t p q h = record { truth = λ m s. truth_alike m x t [] p q (set_var s x (value_of m t s)) s (start m x t s) h }
