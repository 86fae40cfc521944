-- Ends of modular runs, and how sets of ends combine. A modular run looks at the code of one function alone: of a loop it knows the
-- invariants, of a call by contract the contract. So from a state there may be many ends, or none. Source: the Move Prover paper
-- (Dill et al., TACAS 2022), "Modular verification"; the Move Specification Language reference, "Invariants".
use Rattle.std.specs.Prelude.{◌≡◌, ◌⊎◌, ℕ, Bool, true, false, List, [], ◌∷◌, Option, Some, None, if◌then◌else◌}
use Rattle.code_tree.specs.declared.code.Jump.{Jump}
use Rattle.code_tree.specs.declared.code.Jump.TheVariants.{Break, Continue, Return}
use Rattle.code_tree.specs.Outcomes.{Outcome, Done, Left, Aborted, Unfinished, Stuck, same_jump}

-- what a run fails by: a check, an invariant where a loop is entered or after a turn, or code that breaks the rules of the language
pub data Failure : Type 0 where
  AtCheck : ℕ → Failure
  AtEntry : ℕ → Failure
  AtStep : ℕ → Failure
  Broken : Failure

pub data End (I S : Type 0) : Type 0 where
  Goes : List I → S → End I S
  Jumps : Jump → List I → S → End I S
  Aborts : Option ℕ → End I S
  Fails : Failure → End I S

-- a set of ends
abbrev pub EndsOf : Type 0 → Type 0 → Type 1
EndsOf I S = End I S → Type 0

-- from each state a set of ends
abbrev pub Ending : Type 0 → Type 0 → Type 1
Ending I S = S → End I S → Type 0

module _ {I S : Type 0} where
  abbrev pub Just : End I S → EndsOf I S
  Just e end = end ≡ e

  -- the one end of a run without choices, where it has one
  abbrev pub EndOf : Outcome I S → EndsOf I S
  EndOf (Done vs s) end = end ≡ Goes vs s
  EndOf (Left j vs s) end = end ≡ Jumps j vs s
  EndOf (Aborted code) end = end ≡ Aborts code
  EndOf Unfinished end = ⊥
  EndOf Stuck end = end ≡ Fails Broken

  -- ---- sequence

  abbrev pub Onward : End I S → (List I → Ending I S) → EndsOf I S
  Onward (Goes vs s) next end = next vs s end
  Onward (Jumps j vs s) next end = end ≡ Jumps j vs s
  Onward (Aborts code) next end = end ≡ Aborts code
  Onward (Fails k) next end = end ≡ Fails k

  abbrev pub ThenEnds : EndsOf I S → (List I → Ending I S) → EndsOf I S
  ThenEnds first next end = (e : End I S) × first e × Onward e next end

  -- what follows a call: no jump leads out of the code of a function
  abbrev pub Returned : End I S → (List I → Ending I S) → EndsOf I S
  Returned (Goes vs s) next end = next vs s end
  Returned (Jumps j vs s) next end = end ≡ Fails Broken
  Returned (Aborts code) next end = end ≡ Aborts code
  Returned (Fails k) next end = end ≡ Fails k

  abbrev pub CallEnds : EndsOf I S → (List I → Ending I S) → EndsOf I S
  CallEnds ends next end = (e : End I S) × ends e × Returned e next end

  -- ---- choice

  abbrev pub TruthEnds : Option Bool → Ending I S → Ending I S → Ending I S
  TruthEnds None one other s end = end ≡ Fails Broken
  TruthEnds (Some true) one other s end = one s end
  TruthEnds (Some false) one other s end = other s end

  -- one of two, as the one item is true or false
  abbrev pub ChoiceEnds : (I → Option Bool) → Ending I S → Ending I S → List I → Ending I S
  ChoiceEnds truth one other (x ∷ []) s end = TruthEnds (truth x) one other s end
  ChoiceEnds truth one other [] s end = end ≡ Fails Broken
  ChoiceEnds truth one other (x ∷ y ∷ vs) s end = end ≡ Fails Broken

  -- ---- jumps

  abbrev pub JumpEnds : Jump → List I → Ending I S
  JumpEnds j vs s end = end ≡ Jumps j vs s

  abbrev pub caught_end : Jump → End I S → End I S
  caught_end j (Goes vs s) = Goes vs s
  caught_end j (Jumps k vs s) = if same_jump j k then Goes vs s else Jumps k vs s
  caught_end j (Aborts code) = Aborts code
  caught_end j (Fails k) = Fails k

  abbrev pub CaughtEnds : Jump → EndsOf I S → EndsOf I S
  CaughtEnds j ends end = (e : End I S) × ends e × (end ≡ caught_end j e)

-- ---- invariants

-- the number of an invariant, and whether it holds
pub record Judged : Type 0 where
  pub number : ℕ
  pub holds : Bool

abbrev pub SomeFails : List Judged → ℕ → Type 0
SomeFails [] n = ⊥
SomeFails (j ∷ js) n = ((j.number ≡ n) × (j.holds ≡ false)) ⊎ SomeFails js n

abbrev pub AllHold : List Judged → Type 0
AllHold [] = Unit {0}
AllHold (j ∷ js) = (j.holds ≡ true) × AllHold js

module _ {I S : Type 0} where
  -- what a loop's head leads to: an invariant that fails, or any state that may stand there and in which they hold
  abbrev pub HeadEnds : (S → List Judged) → (S → S → Type 0) → Ending I S
  HeadEnds judged differs s end =
      ((k : ℕ) × SomeFails (judged s) k × (end ≡ Fails (AtEntry k))) ⊎ ((t : S) × differs s t × AllHold (judged t) × (end ≡ Goes [] t))

  -- the end of a turn is one where an invariant fails; `break` goes on behind the loop
  abbrev pub TurnEnd : (S → List Judged) → End I S → EndsOf I S
  TurnEnd judged (Goes vs s) end = (k : ℕ) × SomeFails (judged s) k × (end ≡ Fails (AtStep k))
  TurnEnd judged (Jumps Continue vs s) end = (k : ℕ) × SomeFails (judged s) k × (end ≡ Fails (AtStep k))
  TurnEnd judged (Jumps Break vs s) end = end ≡ Goes [] s
  TurnEnd judged (Jumps Return vs s) end = end ≡ Jumps Return vs s
  TurnEnd judged (Aborts code) end = end ≡ Aborts code
  TurnEnd judged (Fails k) end = end ≡ Fails k

  abbrev pub TurnEnds : (S → List Judged) → EndsOf I S → EndsOf I S
  TurnEnds judged ends end = (e : End I S) × ends e × TurnEnd judged e end
