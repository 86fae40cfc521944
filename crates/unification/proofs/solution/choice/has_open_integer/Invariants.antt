use Rattle.std.proofs.Common.{◌≡◌, ◌<◌, ℕ}
use Rattle.unification.specs.Slots.{slot_at}
use Rattle.unification.specs.declared.type_variables.slots.Sort.TheVariants.{Integer}
use Rattle.unification.specs.declared.type_variables.slots.Slot.TheVariants.{Open}
use Rattle.unification.proofs.solution.choice.has_open_integer.Given as goal

abbrev pub invariant-loop-variable : goal.invariant-loop-variable
invariant-loop-variable l = (p : ℕ) → p < l.variable → slot_at l.slots p ≡ Open Integer → ⊥
