-- Equations to solve.
use Rattle.std.specs.Prelude.{◌≡◌, ℕ, ◌<◌, Bool, true, false, List, [], ◌∷◌, sum_by}
use Rattle.unification.specs.Slots.{Typing, value, TermWithin, term_work}
use Rattle.unification.specs.declared.type_variables.slots.Term.{Term}
use Rattle.unification.specs.declared.type_variables.slots.Term.TheVariants.{Variable, Closed, Made, Grouped}
use Rattle.unification.specs.declared.type_variables.slots.Ask.{Ask}

-- the type variable has the type of the term
abbrev pub Has : Typing → Ask → Type 0
Has t a = t a.variable ≡ value t a.term

abbrev pub EachHas : Typing → List Ask → Type 0
EachHas t [] = Unit {0}
EachHas t (a ∷ as_) = Has t a × EachHas t as_

abbrev pub AsksWithin : ℕ → List Ask → Type 0
AsksWithin n [] = Unit {0}
AsksWithin n (a ∷ as_) = (a.variable < n) × TermWithin n a.term × AsksWithin n as_

abbrev pub required_work : Term → ℕ
required_work (Variable q) = 1
required_work (Closed of) = term_work (Closed of)
required_work (Made w q) = term_work (Made w q)
required_work (Grouped g first n) = term_work (Grouped g first n)

abbrev pub ask_work : Ask → ℕ
ask_work a = required_work a.term

abbrev pub asks_work : List Ask → ℕ
asks_work asks = sum_by ask_work asks

-- the old equations and a fact are equivalent to the new equations
pub record Adds (old : List Ask) (F : Typing → Type 0) (new : List Ask) : Type 0 where
  pub to : (t : Typing) → EachHas t old → F t → EachHas t new
  pub from : (t : Typing) → EachHas t new → EachHas t old × F t

-- the fact is added to the equations, or no typing meets the fact
abbrev pub Says : List Ask → (Typing → Type 0) → List Ask → Bool → Type 0
Says old F new true = Adds old F new
Says old F new false = (t : Typing) → F t → ⊥
