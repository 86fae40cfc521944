-- The result of solving the constraints of a node.
use Rattle.std.specs.Prelude.{ℕ, Bool, true, false, IsTrue, List, length}
use Rattle.typing_rules.specs.Constraint.{Constraint}
use Rattle.typing_rules.specs.Rules.{TypeReading, EachHolds, EachSettled}
use Rattle.unification.specs.Slots.{Typing, Meets}
use Rattle.unification.specs.Grown.{Grows}
use Rattle.unification.specs.declared.type_variables.slots.Slot.{Slot}
use Rattle.type_solver.specs.Equations.{Keeps, EachSolved, EquationsWithin}
use Rattle.type_solver.specs.Within.{AllWithin}
use Rattle.type_solver.specs.declared.equation.Equation.{Equation}
use Rattle.type_solver.specs.declared.step.Step.{Step}
use Rattle.type_solver.specs.declared.step.Step.TheVariants.{Settled, Open, Clash}

-- for the typings that meet the slots, the equations are equivalent to the constraints, whose heads are settled
pub record AllSay (w : TypeReading) (old new : List Slot) (ds : List Constraint) (es : List Equation) : Type 0 where
  pub to : (t : Typing) → Meets new t → EachHolds w (Meets old) t ds → EachSolved t es
  pub from : (t : Typing) → Meets new t → EachSolved t es → EachHolds w (Meets old) t ds
  pub settled : EachSettled (Meets old) ds
  pub within : EquationsWithin (length new) es

-- a head is open, if there are typings
pub record HeadsOpen (old : List Slot) (ds : List Constraint) : Type 0 where
  pub differ : (t : Typing) → Meets old t → EachSettled (Meets old) ds → ⊥

abbrev pub ListSays : TypeReading → List Slot → List Slot → List Constraint → List Equation → Bool → Type 0
ListSays w old new ds es true = AllSay w old new ds es
ListSays w old new ds es false = HeadsOpen old ds

-- the typings that meet the old slots and the constraints are those that meet the new slots; or there is none
pub record StepMade (w : TypeReading) (n : ℕ) (old new : List Slot) (ds : List Constraint) (answer : Bool) : Type 0 where
  pub within : AllWithin n ds
  pub settled : EachSettled (Meets old) ds
  pub grows : Grows old (λ t. EachHolds w (Meets old) t ds) new (λ t. IsTrue answer)

pub record StepOpen (old new : List Slot) (ds : List Constraint) : Type 0 where
  pub heads : HeadsOpen old ds
  pub grows : Keeps old new

abbrev pub StepSays : TypeReading → ℕ → List Slot → List Slot → List Constraint → Step → Type 0
StepSays w n old new ds Settled = StepMade w n old new ds true
StepSays w n old new ds Clash = StepMade w n old new ds false
StepSays w n old new ds Open = StepOpen old new ds

abbrev pub SettleSays : List Slot → List Slot → List Equation → Step → Type 0
SettleSays old new es Settled = Grows old (λ t. EachSolved t es) new (λ t. IsTrue true)
SettleSays old new es Clash = Grows old (λ t. EachSolved t es) new (λ t. IsTrue false)
SettleSays old new es Open = ⊥

abbrev pub step_of : Bool → Step
step_of true = Settled
step_of false = Clash
