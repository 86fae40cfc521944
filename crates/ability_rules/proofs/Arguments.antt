-- Type arguments, one by one.
use Rattle.std.proofs.Common.{◌≡◌, ◌↔◌, inl, inr, ℕ, ◌+◌, ◌-◌, ◌<◌, ◌≤◌, true, false, List, refl, ◌∙◌, ap, subst, arith}
use Rattle.std.specs.Bool.{IsTrue}
use Rattle.std.proofs.lemmas.Bool.{both_ways, cases_lt}
use Rattle.program.specs.declared.declaration.TypeParameter.{TypeParameter}
use Rattle.ability_rules.specs.declared.required.entry.Judged.{Judged}
use Rattle.ability_rules.specs.Bodies.{LacksArgument, is_argument}

module _ (known : ℕ → Judged) (parameters : List TypeParameter) (first : ℕ) where
  abbrev AreAble : ℕ → Type 0
  AreAble variable = (i : ℕ) → first + i < variable → is_argument (known (first + i)) parameters i ≡ true

  pub argument_found : (next variable : ℕ) → first ≤ variable → variable < next → is_argument (known variable) parameters (variable - first) ≡ false → IsTrue true ↔ LacksArgument known parameters first (next - first)
  argument_found next variable from to h =
      let at : first + (variable - first) ≡ variable = omega (arith, from) in
      (λ t. record { number = variable - first; within = omega (arith, from, to); lacks = ap (λ (k : ℕ). is_argument (known k) parameters (variable - first)) at ∙ h }, λ l. refl)

  pub no_argument : (next variable : ℕ) → next ≤ variable → AreAble variable → IsTrue false ↔ LacksArgument known parameters first (next - first)
  no_argument next variable end all = (
    λ t. absurd (cc),
    λ h. let w = h.within in absurd (both_ways _ h.lacks (all h.number (omega (arith, w, end)))),
  )

  pub more_arguments : (variable : ℕ) → first ≤ variable → is_argument (known variable) parameters (variable - first) ≡ true → AreAble variable → AreAble (variable + 1)
  more_arguments variable from h all i lt = elim (cases_lt (first + i) variable) [
    | inl less ↦ all i less
    | inr more ↦ (
        let at : variable ≡ first + i = omega (arith, lt, more) in
        let one : variable - first ≡ i = omega (arith, lt, more) in
        subst (λ (k : ℕ). is_argument (known (first + i)) parameters k ≡ true) one (subst (λ (k : ℕ). is_argument (known k) parameters (variable - first) ≡ true) at h))
  ]
