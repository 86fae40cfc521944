-- The formulas of conditions are true exactly if the conditions hold.
use Rattle.std.proofs.Common.{◌≡◌, ℕ, ℤ, pos, ◌≤ℤ◌, ◌<ℤ◌, List, [], ◌∷◌, ◌++◌, Bool, true, false, not, ◌&&◌, ◌||◌, ◌⊎◌, inl, inr, ◌↔◌, refl, sym, ap, ◌∙◌, subst, arith, if◌then◌else◌}
use Rattle.std.specs.Prelude.{int_le}
use Rattle.std.specs.List.{flat_map, AllByRecursion}
use Rattle.std.proofs.lemmas.Int.{ints}
use Rattle.fol.specs.FormulaData.{TermData, FormulaData, formulas_of}
use Rattle.fol.specs.Val.{Val, NumberValue, same_value, same_value-equal, same_value_itself}
use Rattle.fol.specs.Operators.{number_of, at_most}
use Rattle.fol.specs.Truth.{Interpretation, Assignment, value_of, truth_of, all_true, any_true}
use Rattle.sum_tree.specs.declared.clause.Comparison.{Comparison}
use Rattle.sum_tree.specs.declared.clause.Comparison.TheVariants.{Equal, Less, Greater, LessEqual, GreaterEqual}
use Rattle.sum_tree.specs.declared.clause.Condition.{Condition}
use Rattle.sum_tree.specs.declared.clause.Condition.TheVariants.{True, False, Compares}
use Rattle.sum_tree.specs.declared.clause.ClauseKind.{ClauseKind}
use Rattle.sum_tree.specs.declared.clause.ClauseKind.TheVariants.{Requires, Ensures, AbortsIf}
use Rattle.sum_tree.specs.declared.clause.SumClause.{SumClause}
use Rattle.sum_tree.specs.SumFunctionData.{SumFunctionData}
use Rattle.base.proofs.TruthValues.{both_true, true_both, either_true, true_either}
use Rattle.ref_sem.specs.Semantics.{Arguments, Names, names_of, sum_number, ComparesBy, Holds, AllHold, SomeHolds, HasKind}
use Rattle.sum_formula.specs.Translation.{sum_term, comparison_formula, condition_formula}
use Rattle.sum_formula.specs.Premises.{is_kind, formula_if}
use Rattle.vc_gen.specs.Conditions.{condition_if}
use Rattle.vc_gen.specs.Keys.{has_kind}
use Rattle.vc_gen.specs.declared.condition.VerificationCondition.{VerificationCondition}
use Rattle.vc_gen.proofs.NumberTruth.{Agrees, sum_is}

-- ---- comparisons

equal_true : (v w : Val) (a b : ℤ) → v ≡ NumberValue a → w ≡ NumberValue b → (same_value v w ≡ true) ↔ (a ≡ b)
equal_true v w a b e g = (
  λ h. sym (ap number_of e) ∙ ap number_of (same_value-equal v w h) ∙ ap number_of g,
  λ h. subst (λ x. same_value v x ≡ true) (e ∙ ap NumberValue h ∙ sym g) (same_value_itself v),
)

le_is : (a b : ℤ) → (int_le a b ≡ true) ↔ (a ≤ℤ b)
le_is a b = (λ e. grind (arith, ints), λ h. grind (arith, ints))

not_le_is : (a b : ℤ) → (not (int_le a b) ≡ true) ↔ (b <ℤ a)
not_le_is a b = (λ e. grind (arith, ints), λ h. grind (arith, ints))

at_most_true : (v w : Val) (a b : ℤ) → v ≡ NumberValue a → w ≡ NumberValue b → (at_most v w ≡ true) ↔ (a ≤ℤ b)
at_most_true v w a b e g = subst (λ x. (at_most x w ≡ true) ↔ (a ≤ℤ b)) (sym e) (subst (λ x. (at_most (NumberValue a) x ≡ true) ↔ (a ≤ℤ b)) (sym g) (le_is a b))

above_true : (v w : Val) (a b : ℤ) → v ≡ NumberValue a → w ≡ NumberValue b → (not (at_most v w) ≡ true) ↔ (b <ℤ a)
above_true v w a b e g = subst (λ x. (not (at_most x w) ≡ true) ↔ (b <ℤ a)) (sym e) (subst (λ x. (not (at_most (NumberValue a) x) ≡ true) ↔ (b <ℤ a)) (sym g) (not_le_is a b))

-- ---- conditions

module _ (m : Interpretation) (s : Assignment) (f : SumFunctionData) (arguments : Arguments) (agrees : Agrees m s f.parameters arguments) (returned : TermData) (r : ℕ) (returns : value_of m returned s ≡ NumberValue (pos r)) where
  abbrev names : Names
  names = names_of f arguments r

  comparison_true : (c : Comparison) (t u : TermData) (a b : ℤ) → value_of m t s ≡ NumberValue a → value_of m u s ≡ NumberValue b → (truth_of m (comparison_formula c t u) s ≡ true) ↔ ComparesBy c a b
  comparison_true Equal t u a b e g = equal_true (value_of m t s) (value_of m u s) a b e g
  comparison_true Less t u a b e g = above_true (value_of m u s) (value_of m t s) b a g e
  comparison_true Greater t u a b e g = above_true (value_of m t s) (value_of m u s) a b e g
  comparison_true LessEqual t u a b e g = at_most_true (value_of m t s) (value_of m u s) a b e g
  comparison_true GreaterEqual t u a b e g = at_most_true (value_of m u s) (value_of m t s) b a g e

  pub condition_true : (c : Condition) → (truth_of m (condition_formula f.parameters returned c) s ≡ true) ↔ Holds names c
  condition_true True = (λ _. tt, λ _. refl)
  condition_true False = (λ e. absurd (cc), λ h. absurd h)
  condition_true (Compares left c right) =
      comparison_true c (sum_term f.parameters returned left) (sum_term f.parameters returned right) (sum_number names left) (sum_number names right) (sum_is m s f arguments agrees returned r returns left) (sum_is m s f arguments agrees returned r returns right)

-- ---- kinds

pub is_kind-same : (a b : ClauseKind) → is_kind a b ≡ true → a ≡ b
is_kind-same Requires Requires e = refl
is_kind-same Ensures Ensures e = refl
is_kind-same AbortsIf AbortsIf e = refl
is_kind-same Requires Ensures e = absurd (cc)
is_kind-same Requires AbortsIf e = absurd (cc)
is_kind-same Ensures Requires e = absurd (cc)
is_kind-same Ensures AbortsIf e = absurd (cc)
is_kind-same AbortsIf Requires e = absurd (cc)
is_kind-same AbortsIf Ensures e = absurd (cc)

is_kind_itself : (a : ClauseKind) → is_kind a a ≡ true
is_kind_itself Requires = refl
is_kind_itself Ensures = refl
is_kind_itself AbortsIf = refl

pub same-is_kind : (a b : ClauseKind) → a ≡ b → is_kind a b ≡ true
same-is_kind a b e = subst (λ x. is_kind a x ≡ true) e (is_kind_itself a)

pub not_kind : (a b : ClauseKind) → is_kind a b ≡ false → a ≡ b → ⊥
not_kind a b e h = let g = same-is_kind a b h in absurd (cc)

pub has_kind-true : (kind : ClauseKind) (clauses : List SumClause) → HasKind kind clauses → has_kind kind clauses ≡ true
has_kind-true kind [] h = absurd h
has_kind-true kind (c ∷ cs) (inl e) = (λ i. same-is_kind c.kind kind e i || has_kind kind cs)
has_kind-true kind (c ∷ cs) (inr h) = either (is_kind c.kind kind) (has_kind-true kind cs h)
  where
    either : (b : Bool) → has_kind kind cs ≡ true → b || has_kind kind cs ≡ true
    either true e = refl
    either false e = e

pub true-has_kind : (kind : ClauseKind) (clauses : List SumClause) → has_kind kind clauses ≡ true → HasKind kind clauses
true-has_kind kind [] e = absurd (cc)
true-has_kind kind (c ∷ cs) e = go (true-has_kind kind cs) (is_kind c.kind kind) refl
  where
    go : (has_kind kind cs ≡ true → HasKind kind cs) → (b : Bool) → is_kind c.kind kind ≡ b → HasKind kind (c ∷ cs)
    go rest true h = inl (is_kind-same c.kind kind h)
    go rest false h = inr (rest ((λ i. sym h i || has_kind kind cs) ∙ e))

-- ---- the formulas of the clauses of a kind

module _ (m : Interpretation) (s : Assignment) (f : SumFunctionData) (arguments : Arguments) (agrees : Agrees m s f.parameters arguments) (returned : TermData) (r : ℕ) (returns : value_of m returned s ≡ NumberValue (pos r)) (kind : ClauseKind) where
  abbrev of_kind : List SumClause → List FormulaData
  of_kind clauses = flat_map (formula_if kind f.parameters returned) clauses

  abbrev truth : SumClause → Bool
  truth c = truth_of m (condition_formula f.parameters returned c.condition) s

  all_if : (b : Bool) (p : FormulaData) (ps : List FormulaData) → all_true m (formulas_of ((if b then p ∷ [] else []) ++ ps)) s ≡ (if b then truth_of m p s && all_true m (formulas_of ps) s else all_true m (formulas_of ps) s)
  all_if true p ps = refl
  all_if false p ps = refl

  any_if : (b : Bool) (p : FormulaData) (ps : List FormulaData) → any_true m (formulas_of ((if b then p ∷ [] else []) ++ ps)) s ≡ (if b then truth_of m p s || any_true m (formulas_of ps) s else any_true m (formulas_of ps) s)
  any_if true p ps = refl
  any_if false p ps = refl

  pub all_hold : (clauses : List SumClause) → (all_true m (formulas_of (of_kind clauses)) s ≡ true) ↔ AllHold kind (names_of f arguments r) clauses
  all_hold [] = (λ _. tt, λ _. refl)
  all_hold (c ∷ cs) = go (all_hold cs) (is_kind c.kind kind) refl
    where
      is : (truth c ≡ true) ↔ Holds (names_of f arguments r) c.condition
      is = condition_true m s f arguments agrees returned r returns c.condition

      split : (b : Bool) → is_kind c.kind kind ≡ b → all_true m (formulas_of (of_kind (c ∷ cs))) s ≡ (if b then truth c && all_true m (formulas_of (of_kind cs)) s else all_true m (formulas_of (of_kind cs)) s)
      split b e =
          all_if (is_kind c.kind kind) (condition_formula f.parameters returned c.condition) (of_kind cs)
          ∙ ap (λ x. if x then truth c && all_true m (formulas_of (of_kind cs)) s else all_true m (formulas_of (of_kind cs)) s) e

      go : ((all_true m (formulas_of (of_kind cs)) s ≡ true) ↔ AllHold kind (names_of f arguments r) cs) → (b : Bool) → is_kind c.kind kind ≡ b → (all_true m (formulas_of (of_kind (c ∷ cs))) s ≡ true) ↔ AllHold kind (names_of f arguments r) (c ∷ cs)
      go rest true e = (
        λ h. let both = both_true (truth c) (all_true m (formulas_of (of_kind cs)) s) (sym (split true e) ∙ h) in (λ _. is.0 both.0, rest.0 both.1),
        λ h. split true e ∙ true_both (truth c) (all_true m (formulas_of (of_kind cs)) s) (is.1 (h.0 (is_kind-same c.kind kind e))) (rest.1 h.1),
      )
      go rest false e = (
        λ h. (λ k. absurd (not_kind c.kind kind e k), rest.0 (sym (split false e) ∙ h)),
        λ h. split false e ∙ rest.1 h.1,
      )

  pub some_holds : (clauses : List SumClause) → (any_true m (formulas_of (of_kind clauses)) s ≡ true) ↔ SomeHolds kind (names_of f arguments r) clauses
  some_holds [] = (λ e. absurd (cc), λ h. absurd h)
  some_holds (c ∷ cs) = go (some_holds cs) (is_kind c.kind kind) refl
    where
      is : (truth c ≡ true) ↔ Holds (names_of f arguments r) c.condition
      is = condition_true m s f arguments agrees returned r returns c.condition

      split : (b : Bool) → is_kind c.kind kind ≡ b → any_true m (formulas_of (of_kind (c ∷ cs))) s ≡ (if b then truth c || any_true m (formulas_of (of_kind cs)) s else any_true m (formulas_of (of_kind cs)) s)
      split b e =
          any_if (is_kind c.kind kind) (condition_formula f.parameters returned c.condition) (of_kind cs)
          ∙ ap (λ x. if x then truth c || any_true m (formulas_of (of_kind cs)) s else any_true m (formulas_of (of_kind cs)) s) e

      first_or_later : ((any_true m (formulas_of (of_kind cs)) s ≡ true) ↔ SomeHolds kind (names_of f arguments r) cs) → (is_kind c.kind kind ≡ true) → (truth c ≡ true) ⊎ (any_true m (formulas_of (of_kind cs)) s ≡ true) → SomeHolds kind (names_of f arguments r) (c ∷ cs)
      first_or_later rest e (inl h) = inl (is_kind-same c.kind kind e, is.0 h)
      first_or_later rest e (inr h) = inr (rest.0 h)

      back : ((any_true m (formulas_of (of_kind cs)) s ≡ true) ↔ SomeHolds kind (names_of f arguments r) cs) → SomeHolds kind (names_of f arguments r) (c ∷ cs) → (truth c ≡ true) ⊎ (any_true m (formulas_of (of_kind cs)) s ≡ true)
      back rest (inl h) = inl (is.1 h.1)
      back rest (inr h) = inr (rest.1 h)

      later : is_kind c.kind kind ≡ false → SomeHolds kind (names_of f arguments r) (c ∷ cs) → SomeHolds kind (names_of f arguments r) cs
      later e (inl h) = absurd (not_kind c.kind kind e h.0)
      later e (inr h) = h

      go : ((any_true m (formulas_of (of_kind cs)) s ≡ true) ↔ SomeHolds kind (names_of f arguments r) cs) → (b : Bool) → is_kind c.kind kind ≡ b → (any_true m (formulas_of (of_kind (c ∷ cs))) s ≡ true) ↔ SomeHolds kind (names_of f arguments r) (c ∷ cs)
      go rest true e = (
        λ h. first_or_later rest e (either_true (truth c) (any_true m (formulas_of (of_kind cs)) s) (sym (split true e) ∙ h)),
        λ h. split true e ∙ true_either (truth c) (any_true m (formulas_of (of_kind cs)) s) (back rest h),
      )
      go rest false e = (
        λ h. inr (rest.0 (sym (split false e) ∙ h)),
        λ h. split false e ∙ rest.1 (later e h),
      )

-- ---- the conditions of the clauses of a kind

-- a fact of the condition of each clause of the kind
abbrev pub EachOfKind : ClauseKind → (SumClause → Type 0) → List SumClause → Type 0
EachOfKind kind P [] = Unit {0}
EachOfKind kind P (c ∷ cs) = (c.kind ≡ kind → P c) × EachOfKind kind P cs

pub each_of_kind : (kind : ClauseKind) (make : SumClause → VerificationCondition) (P : VerificationCondition → Type 0) (clauses : List SumClause) → AllByRecursion P (flat_map (condition_if kind make) clauses) ↔ EachOfKind kind (λ c. P (make c)) clauses
each_of_kind kind make P [] = (λ _. tt, λ _. tt)
each_of_kind kind make P (c ∷ cs) = go (each_of_kind kind make P cs) (is_kind c.kind kind) refl
  where
    go : (AllByRecursion P (flat_map (condition_if kind make) cs) ↔ EachOfKind kind (λ d. P (make d)) cs) → (b : Bool) → is_kind c.kind kind ≡ b → AllByRecursion P ((if is_kind c.kind kind then make c ∷ [] else []) ++ flat_map (condition_if kind make) cs) ↔ EachOfKind kind (λ d. P (make d)) (c ∷ cs)
    go rest true e =
        subst (λ b. AllByRecursion P ((if b then make c ∷ [] else []) ++ flat_map (condition_if kind make) cs) ↔ EachOfKind kind (λ d. P (make d)) (c ∷ cs)) (sym e)
        (λ h. (λ _. h.0, rest.0 h.1), λ h. (h.0 (is_kind-same c.kind kind e), rest.1 h.1))
    go rest false e =
        subst (λ b. AllByRecursion P ((if b then make c ∷ [] else []) ++ flat_map (condition_if kind make) cs) ↔ EachOfKind kind (λ d. P (make d)) (c ∷ cs)) (sym e)
        (λ h. (λ k. absurd (not_kind c.kind kind e k), rest.0 h), λ h. rest.1 h.1)

pub all_appended : {X : Type 0} (P : X → Type 0) (xs ys : List X) → AllByRecursion P xs → AllByRecursion P ys → AllByRecursion P (xs ++ ys)
all_appended P [] ys h k = k
all_appended P (x ∷ xs) ys h k = (h.0, all_appended P xs ys h.1 k)

pub all_parts : {X : Type 0} (P : X → Type 0) (xs ys : List X) → AllByRecursion P (xs ++ ys) → AllByRecursion P xs × AllByRecursion P ys
all_parts P [] ys h = (tt, h)
all_parts P (x ∷ xs) ys h = let rest = all_parts P xs ys h.1 in ((h.0, rest.0), rest.1)
