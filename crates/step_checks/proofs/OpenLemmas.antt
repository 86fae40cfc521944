-- Values that leave a branch open.
use Rattle.std.proofs.Common.{◌≡◌, ◌↔◌, ℕ, Bool, true, false, not, IsTrue, ℤ, pos, ◌+ℤ◌, ◌*ℤ◌, ◌<ℤ◌, List, ◌∷◌, Option, Some, None, refl, sym, ◌∙◌, subst, arith}
use Rattle.std.specs.Prelude.{All, Contains, MatchOption}
use Rattle.std.specs.Option.{is_some}
use Rattle.std.proofs.Math.IntN.{*ℤ_comm}
use Rattle.std.proofs.lemmas.Int.{ints, by_lt_z}
use Rattle.std.proofs.lemmas.List.Elements.{All-contains, Contains-append_right}
use Rattle.fol.specs.FormulaData.{TermData}
use Rattle.base.proofs.WholeNumbers.{mul_le}
use Rattle.linear_arith.specs.declared.rows.Fraction.{Fraction}
use Rattle.linear_arith.specs.Answer.{IsSolution}
use Rattle.linear_arith.specs.Substitution.{ArePositive}
use Rattle.term_pool.specs.declared.node.Node.{Node}
use Rattle.certificates.specs.BranchesBranch.{Branch}
use Rattle.certificates.specs.Rows.{IsWholeValue, IsWholeIfNumber}
use Rattle.certificates.specs.ProofTraces.{IsBetween}
use Rattle.row_reasoning.specs.declared.rows.BranchRows.{BranchRows}
use Rattle.row_reasoning.specs.Numbers.{term_at}
use Rattle.row_reasoning.specs.Bounds.{IsBound}
use Rattle.row_reasoning.specs.declared.values.bounds.Bound.{Bound}
use Rattle.step_checks.specs.Checked.{AreOpenValues}

-- ---- a bound that is required

-- no whole number lies between two consecutive ones
not_between : (z k d : ℤ) → pos 0 <ℤ d → (k *ℤ d) <ℤ (z *ℤ d) → (z *ℤ d) <ℤ ((k +ℤ pos 1) *ℤ d) → ⊥
not_between z k d positive above below = by_lt_z k z
    (λ less. (
    let p = mul_le d (k +ℤ pos 1) z (omega (arith, ints, positive)) (omega (arith, ints, less)) in
    let left = *ℤ_comm d (k +ℤ pos 1) in
    let right = *ℤ_comm d z in
    omega (arith, ints, p, left, right, below)))
    (λ not_less. (
    let p = mul_le d z k (omega (arith, ints, positive)) not_less in
    let left = *ℤ_comm d z in
    let right = *ℤ_comm d k in
    omega (arith, ints, p, left, right, above)))

fraction_not_whole : (k : ℤ) (v : Fraction) → pos 0 <ℤ v.denominator → IsBetween k v → IsWholeValue v → ⊥
fraction_not_whole k v positive between whole =
    not_between whole.number k v.denominator positive (subst (λ z. (k *ℤ v.denominator) <ℤ z) whole.is between.above) (subst (λ z. z <ℤ ((k +ℤ pos 1) *ℤ v.denominator)) whole.is between.below)

bound_not_whole : (ns : List Node) (b : Branch) (class : TermData → ℕ) (classes : List ℕ) (values : List Fraction) (bound : Bound) → ArePositive values → IsBound ns b class classes values bound → All (IsWholeIfNumber b class classes) values → ⊥
bound_not_whole ns b class classes values bound positive h whole =
    let among : Contains values h.value = subst (λ vs. Contains vs h.value) (sym h.parts) (Contains-append_right h.before (h.value ∷ h.after) h.value (0, omega arith, refl)) in
    let one = All-contains (IsWholeIfNumber b class classes) values h.value whole among in
    let above = All-contains (λ (v : Fraction). pos 0 <ℤ v.denominator) values h.value positive among in
    fraction_not_whole bound.below h.value above h.between
    (one.whole (class (term_at ns bound.term)) h.of_term (record { term = term_at ns bound.term; of_class = refl; stands = record { position = bound.entry; says = h.says } }))

pub none_is_triggered : (ns : List Node) (b : Branch) (class : TermData → ℕ) (rows : BranchRows) (values : List Fraction) (found : Option Bound) (r : Bool) → IsSolution rows.rows values → MatchOption found (All (IsWholeIfNumber b class rows.classes.keys) values) (IsBound ns b class rows.classes.keys values) → is_some found ≡ not r → IsTrue r ↔ AreOpenValues b class rows values
none_is_triggered ns b class rows values None true solution whole e = (λ t. record { solution = solution; whole = whole }, λ h. refl)
none_is_triggered ns b class rows values None false solution whole e = absurd (cc)
none_is_triggered ns b class rows values (Some bound) true solution h e = absurd (cc)
none_is_triggered ns b class rows values (Some bound) false solution h e = (λ t. absurd (cc), λ opens. absurd (bound_not_whole ns b class rows.classes.keys values bound solution.positive h opens.whole))

pub rows_not_met : (b : Branch) (class : TermData → ℕ) (rows : BranchRows) (values : List Fraction) (met : Bool) → met ≡ false → IsTrue met ↔ IsSolution rows.rows values → IsTrue false ↔ AreOpenValues b class rows values
rows_not_met b class rows values met e h = (λ t. absurd (cc), λ opens. sym e ∙ h.1 opens.solution)
