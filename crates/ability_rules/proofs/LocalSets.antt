-- The abilities of the types of locals, local by local.
use Rattle.std.proofs.Common.{◌≡◌, ℕ, ◌+◌, ◌<◌, inl, inr, List, [], ◌∷◌, ◌++◌, length, get_or, Some, ◌∙◌, ap, arith}
use Rattle.std.proofs.lemmas.Bool.{cases_lt}
use Rattle.std.proofs.lemmas.List.{get_or_append_left}
use Rattle.std.proofs.lemmas.Option.{slice_get-get_or}
use Rattle.std.proofs.Math.Seq.{get_or-append_seam}
use Rattle.program.specs.declared.declaration.AbilitySet.{AbilitySet}
use Rattle.program.specs.declared.declaration.Function.{Function}
use Rattle.program.specs.declared.program.Program.{Program}
use Rattle.program.specs.Sets.{no_abilities}
use Rattle.type_constraints.proofs.Variables.{nodes_within}
use Rattle.ability_rules.specs.declared.required.entry.Judged.{Judged}
use Rattle.ability_rules.specs.declared.required.entry.JudgedTypes.{JudgedTypes}
use Rattle.ability_rules.specs.Bodies.{IsJudgedBody, judged_variable}
use Rattle.ability_rules.specs.Locals.{AreLocalAbilities}
use Rattle.ability_rules.proofs.Bodies.{has_type, of, stated_at}

module _ (table : JudgedTypes) (variables : List ℕ) (start : ℕ) where
  abbrev pub AreKnown : List AbilitySet → ℕ → Type 0
  AreKnown sets n = (k : ℕ) → k < n → get_or sets k no_abilities ≡ (judged_variable table variables (start + k)).abilities

  pub more_known : (sets new : List AbilitySet) (n : ℕ) (set : AbilitySet) → length sets ≡ n → new ≡ sets ++ set ∷ [] → set ≡ (judged_variable table variables (start + n)).abilities → AreKnown sets n → AreKnown new (n + 1)
  more_known sets new n set long push is known k lt =
      ap (λ (xs : List AbilitySet). get_or xs k no_abilities) push
      ∙ elim (cases_lt k n) [
        | inl less ↦ get_or_append_left sets (set ∷ []) no_abilities k (omega (arith, less, long)) ∙ known k less
        | inr more ↦ (
            let at : k ≡ length sets = omega (arith, lt, more, long) in
            let here : start + n ≡ start + k = omega (arith, lt, more) in
            ap (λ (m : ℕ). get_or (sets ++ set ∷ []) m no_abilities) at ∙ get_or-append_seam sets set [] no_abilities ∙ is
            ∙ ap (λ (m : ℕ). (judged_variable table variables m).abilities) here)
      ]

pub local_sets : (program : Program) (f : Function) (variables : List ℕ) (table : JudgedTypes) (sets : List AbilitySet) → length sets ≡ length f.locals → AreKnown table variables (length f.body.nodes) sets (length f.locals)
    → IsJudgedBody program f variables table → AreLocalAbilities program f sets
local_sets program f variables table sets long known body = record {
  same_length = long;
  typed = λ l lt. (of program f variables table body (length f.body.nodes + l), has_type program f variables table body (length f.body.nodes + l) (there l lt));
  each = λ l t lt has.
      (slice_get-get_or sets l no_abilities (omega (arith, lt, long))
      ∙ ap (λ (a : AbilitySet). Some a) (known l lt ∙ ap (λ (j : Judged). j.abilities) (stated_at program f variables table body (length f.body.nodes + l) t (there l lt) has)));
}
  where
    there : (l : ℕ) → l < length f.locals → length f.body.nodes + l < length variables
    there l lt = let all = nodes_within program f body.types variables body.typed in omega (arith, lt, all)
