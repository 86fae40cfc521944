-- A renamed term has the value that the term has where each variable stands for its new one, and likewise a formula its truth.
use Rattle.std.proofs.Common.{◌≡◌, ℕ, Bool, true, false, not, ◌==◌, eq-eqb, ◌&&◌, ◌||◌, if◌then◌else◌, refl, ◌∙◌, ap}
use mathlib.Core.Path.{fun_ext}
use Rattle.fol.specs.FormulaData.{TermData, VarTerm, ConstantTerm, UnaryTerm, BinaryTerm, TernaryTerm, PackTerm, FieldTerm, SetFieldTerm, IfTerm, TermsData, NoTerms, MoreTerms, FormulaData, CompareFormula, IsFormula, HoldsFormula, NotFormula, JoinFormula, ConnectFormula, QuantifyFormula, FormulasData, NoFormulas, MoreFormulas}
use Rattle.fol.specs.Val.{Val, StructValue, MoreValues}
use Rattle.fol.specs.Operators.{unary_value, binary_value, ternary_value, field_value, set_field_value, compared, is_true}
use Rattle.fol.specs.declared.operators.Junction.TheVariants.{AllOf, AnyOf}
use Rattle.fol.specs.TypedValue.{put_types, has_type}
use Rattle.fol.specs.Truth.{Interpretation, Assignment, set_var, quantified, connected, value_of, values_of_terms, truth_of, all_true, any_true}
use Rattle.code_tree.specs.Renamed.{keeping, renamed, renamed_terms, renamed_formula, renamed_formulas, Spares, Fits, FitTerms, FitsFormula, FitFormulas}

-- each variable has the value of its new one
abbrev pub by_names : Assignment → (ℕ → ℕ) → Assignment
by_names s r k = s (r k)

kept_at : (s : Assignment) (n : ℕ) (v : Val) (r : ℕ → ℕ) (k : ℕ) (b : Bool) → (k == n) ≡ b → ((k == n) ≡ false → (r k == n) ≡ false) → (n == n) ≡ true
    → by_names (set_var s n v) (keeping n r) k ≡ set_var (by_names s r) n v k
kept_at s n v r k true e spares self = rw (e, self) refl
kept_at s n v r k false e spares self = rw (e, spares e) refl

kept : (s : Assignment) (n : ℕ) (v : Val) (r : ℕ → ℕ) → Spares n r → by_names (set_var s n v) (keeping n r) ≡ set_var (by_names s r) n v
kept s n v r spares = fun_ext (λ k. kept_at s n v r k (k == n) refl (spares k) (eq-eqb n n refl))

mutual
  pub renamed_value : (m : Interpretation) (r : ℕ → ℕ) (s : Assignment) (t : TermData) → Fits r t → value_of m (renamed r t) s ≡ value_of m t (by_names s r)
  renamed_value m r s (VarTerm n) h = refl
  renamed_value m r s (ConstantTerm c) h = refl
  renamed_value m r s (UnaryTerm o t) h = ap (unary_value o) (renamed_value m r s t h)
  renamed_value m r s (BinaryTerm o t u) h = λ i. binary_value o (renamed_value m r s t h.0 i) (renamed_value m r s u h.1 i)
  renamed_value m r s (TernaryTerm o t u v) h = λ i. ternary_value o (renamed_value m r s t h.0 i) (renamed_value m r s u h.1 i) (renamed_value m r s v h.2 i)
  renamed_value m r s (PackTerm a ts) h = ap (StructValue (put_types m.named a)) (renamed_values m r s ts h)
  renamed_value m r s (FieldTerm a k t) h = ap (field_value (put_types m.named a) k) (renamed_value m r s t h)
  renamed_value m r s (SetFieldTerm a k t u) h = λ i. set_field_value (put_types m.named a) k (renamed_value m r s t h.0 i) (renamed_value m r s u h.1 i)
  renamed_value m r s (IfTerm p t u) h = λ i. if renamed_truth m r s p h.0 i then renamed_value m r s t h.1 i else renamed_value m r s u h.2 i

  pub renamed_values : (m : Interpretation) (r : ℕ → ℕ) (s : Assignment) (ts : TermsData) → FitTerms r ts → values_of_terms m (renamed_terms r ts) s ≡ values_of_terms m ts (by_names s r)
  renamed_values m r s NoTerms h = refl
  renamed_values m r s (MoreTerms t ts) h = λ i. MoreValues (renamed_value m r s t h.0 i) (renamed_values m r s ts h.1 i)

  pub renamed_truth : (m : Interpretation) (r : ℕ → ℕ) (s : Assignment) (p : FormulaData) → FitsFormula r p → truth_of m (renamed_formula r p) s ≡ truth_of m p (by_names s r)
  renamed_truth m r s (CompareFormula o t u) h = λ i. compared o (renamed_value m r s t h.0 i) (renamed_value m r s u h.1 i)
  renamed_truth m r s (IsFormula a t) h = ap (has_type m.shapes (put_types m.named a)) (renamed_value m r s t h)
  renamed_truth m r s (HoldsFormula t) h = ap is_true (renamed_value m r s t h)
  renamed_truth m r s (NotFormula p) h = ap not (renamed_truth m r s p h)
  renamed_truth m r s (JoinFormula AllOf ps) h = renamed_all m r s ps h
  renamed_truth m r s (JoinFormula AnyOf ps) h = renamed_any m r s ps h
  renamed_truth m r s (ConnectFormula o p q) h = λ i. connected o (renamed_truth m r s p h.0 i) (renamed_truth m r s q h.1 i)
  renamed_truth m r s (QuantifyFormula o n ts p) h =
      ap (quantified o m.all) (fun_ext (λ v. renamed_truth m (keeping n r) (set_var s n v) p h.1 ∙ ap (truth_of m p) (kept s n v r h.0)))

  pub renamed_all : (m : Interpretation) (r : ℕ → ℕ) (s : Assignment) (ps : FormulasData) → FitFormulas r ps → all_true m (renamed_formulas r ps) s ≡ all_true m ps (by_names s r)
  renamed_all m r s NoFormulas h = refl
  renamed_all m r s (MoreFormulas p ps) h = λ i. renamed_truth m r s p h.0 i && renamed_all m r s ps h.1 i

  pub renamed_any : (m : Interpretation) (r : ℕ → ℕ) (s : Assignment) (ps : FormulasData) → FitFormulas r ps → any_true m (renamed_formulas r ps) s ≡ any_true m ps (by_names s r)
  renamed_any m r s NoFormulas h = refl
  renamed_any m r s (MoreFormulas p ps) h = λ i. renamed_truth m r s p h.0 i || renamed_any m r s ps h.1 i
