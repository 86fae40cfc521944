-- The first value with a property.
use Rattle.std.proofs.Common.{◌≡◌, ◌↔◌, inl, inr, ℕ, ◌<◌, ◌≤◌, Bool, not, IsTrue, ℤ, List, ◌∷◌, length, take, Option, Some, refl, sym, ◌∙◌, subst, arith}
use Rattle.std.specs.Prelude.{slice_get, All, Contains, MatchOption, pos, ◌<ℤ◌}
use Rattle.std.specs.Option.{is_some}
use Rattle.std.proofs.lemmas.Bool.{cases_lt}
use Rattle.std.proofs.lemmas.List.{get_or-take, length-take}
use Rattle.std.proofs.lemmas.List.Elements.{All-contains, Contains-append_right}
use Rattle.fol.specs.FormulaData.{TermData}
use Rattle.linear_arith.specs.declared.rows.Fraction.{Fraction}
use Rattle.linear_arith.specs.Substitution.{ArePositive}
use Rattle.term_pool.specs.declared.node.Node.{Node}
use Rattle.certificates.specs.BranchesBranch.{Branch}
use Rattle.certificates.specs.Rows.{IsWholeIfNumber}
use Rattle.row_reasoning.specs.Numbers.{term_at}
use Rattle.row_reasoning.specs.Bounds.{IsBound}
use Rattle.row_reasoning.specs.declared.values.bounds.Bound.{Bound}
use Rattle.tree_checks.specs.Firsts.{IsTriggered, IsFirstWith, HasNoneWith, IsFirstNamed}
use Rattle.tree_checks.proofs.BetweenLemmas.{not_whole}
use Rattle.tree_checks.proofs.BoundsTruthLemmas.{none_found}

-- ---- the first value with a property

module _ (P : Fraction → Type 0) (values : List Fraction) where
  -- no value has the property so far
  pub record HasNoneBefore (count : ℕ) : Type 0 where
    pub none : (k : ℕ) (v : Fraction) → k < count → slice_get values k ≡ Some v → P v → ⊥

-- ---- values before it

taken : (Q : Fraction → Type 0) (values : List Fraction) (position more : ℕ) → position ≤ more → All Q (take more values) → All Q (take position values)
taken Q values position more l h = λ k d w. (
    let short = length-take position values in
    let long = length-take more values in
    let a : k < position = omega (arith, w, short) in
    let b : k < more = omega (arith, a, l) in
    let c : k < length (take more values) = omega (arith, w, short, long, l) in
    subst Q (get_or-take more values k d b ∙ sym (get_or-take position values k d a)) (h k d c))

-- a bound is required only if a value of a number is not whole
bound_not_whole : (ns : List Node) (b : Branch) (class : TermData → ℕ) (classes : List ℕ) (values : List Fraction) → ArePositive values → (bound : Bound) → IsBound ns b class classes values bound → All (IsWholeIfNumber b class classes) values → ⊥
bound_not_whole ns b class classes values positive bound h whole =
    let among : Contains values h.value = subst (λ vs. Contains vs h.value) (sym h.parts) (Contains-append_right h.before (h.value ∷ h.after) h.value (0, omega arith, refl)) in
    let one = All-contains (IsWholeIfNumber b class classes) values h.value whole among in
    let above = All-contains (λ (v : Fraction). pos 0 <ℤ v.denominator) values h.value positive among in
    not_whole bound.below h.value above h.between
    (one.whole (class (term_at ns bound.term)) h.of_term (record { term = term_at ns bound.term; of_class = refl; stands = record { position = bound.entry; says = h.says } }))

module _ (b : Branch) (class : TermData → ℕ) (classes : List ℕ) (name : Option ℕ) (k : ℤ) (values : List Fraction) where
  pub none_named : HasNoneWith (IsTriggered classes name k) values → IsFirstNamed b class classes name k values → ⊥
  none_named none h = none.none h.position h.value h.found h.triggered

  whole_to : (position : ℕ) → IsFirstWith (IsTriggered classes name k) values position → IsFirstNamed b class classes name k values → All (IsWholeIfNumber b class classes) (take position values)
  whole_to position first h = elim (cases_lt h.position position) [
    | inl l ↦ absurd (first.none_before h.position h.value l h.found h.triggered)
    | inr l ↦ taken (IsWholeIfNumber b class classes) values position h.position l h.whole_before
  ]

  pub first_exactly : (ns : List Node) (position : ℕ) → IsFirstWith (IsTriggered classes name k) values position → ArePositive (take position values) → (found : Option Bound) (known : Bool) → MatchOption found (All (IsWholeIfNumber b class classes) (take position values)) (IsBound ns b class classes (take position values)) → is_some found ≡ not known → IsTrue known ↔ IsFirstNamed b class classes name k values
  first_exactly ns position first positive found known m e =
      let whole = none_found (All (IsWholeIfNumber b class classes) (take position values)) (IsBound ns b class classes (take position values)) (bound_not_whole ns b class classes (take position values) positive) found known m e in
      (λ t. record { position = position; value = first.value; found = first.found; triggered = first.holds; whole_before = whole.0 t }, λ h. whole.1 (whole_to position first h))
