-- How a run of code ends, and how the runs of its parts combine. Nothing here depends on what items and states are: items are what
-- an expression gives (values, and references where there are any), a state is what operations read and write.
-- Source: The Move Book, "Conditionals and Loops", "Abort and Assert", "Functions".
use Rattle.std.specs.Prelude.{ℕ, Bool, true, false, List, [], ◌∷◌, Option, Some, None, if◌then◌else◌}
use Rattle.code_tree.specs.declared.code.Jump.{Jump}
use Rattle.code_tree.specs.declared.code.Jump.TheVariants.{Break, Continue, Return}

pub data Outcome (I S : Type 0) : Type 0 where
  -- the code gives these items, and goes on
  Done : List I → S → Outcome I S
  -- `break`, `continue`, or `return` of these items
  Left : Jump → List I → S → Outcome I S
  -- with a code where `abort` or `assert!` aborts, else without one; global storage is again as it was at the start of the whole run
  Aborted : Option ℕ → Outcome I S
  -- more turns were needed
  Unfinished : Outcome I S
  -- the code breaks the rules of the language, as where it adds a truth value to a number
  Stuck : Outcome I S

-- a run: its outcome from each state
abbrev pub RunOf : Type 0 → Type 0 → Type 0
RunOf I S = S → Outcome I S

-- ---- the simplest runs

abbrev pub gives : {I S : Type 0} → List I → RunOf I S
gives vs s = Done vs s

abbrev pub leaves : {I S : Type 0} → Jump → List I → RunOf I S
leaves j vs s = Left j vs s

abbrev pub aborts : {I S : Type 0} → Option ℕ → RunOf I S
aborts code s = Aborted code

-- as an operation does whose result does not fit, say
abbrev pub aborts_without_code : {I S : Type 0} → RunOf I S
aborts_without_code s = Aborted None

abbrev pub unfinished : {I S : Type 0} → RunOf I S
unfinished s = Unfinished

abbrev pub stuck : {I S : Type 0} → RunOf I S
stuck s = Stuck

-- ---- sequence

-- what follows an outcome: where code goes on, the next code runs on the items that it gives
abbrev pub after : {I S : Type 0} → Outcome I S → (List I → RunOf I S) → Outcome I S
after (Done vs s) next = next vs s
after (Left j vs s) next = Left j vs s
after (Aborted code) next = Aborted code
after Unfinished next = Unfinished
after Stuck next = Stuck

abbrev pub then_run : {I S : Type 0} → RunOf I S → (List I → RunOf I S) → RunOf I S
then_run first next s = after (first s) next

-- what follows a call: no jump leads out of the code of a function
abbrev pub returned : {I S : Type 0} → Outcome I S → (List I → RunOf I S) → Outcome I S
returned (Done vs s) next = next vs s
returned (Left j vs s) next = Stuck
returned (Aborted code) next = Aborted code
returned Unfinished next = Unfinished
returned Stuck next = Stuck

-- what must be there
abbrev pub with_some : {I S A : Type 0} → Option A → (A → RunOf I S) → RunOf I S
with_some None next = stuck
with_some (Some x) next = next x

-- where it is missing, the code aborts
abbrev pub or_aborts : {I S A : Type 0} → Option A → (A → RunOf I S) → RunOf I S
or_aborts None next = aborts_without_code
or_aborts (Some x) next = next x

-- exactly one item is wanted
abbrev pub on_one : {I S : Type 0} → (I → RunOf I S) → List I → RunOf I S
on_one run (x ∷ []) = run x
on_one run _ = stuck

-- ---- choice

-- one of two runs, as the one item is true or false
abbrev pub chosen : {I S : Type 0} → (I → Option Bool) → RunOf I S → RunOf I S → List I → RunOf I S
chosen truth one other vs = on_one (λ x. with_some (truth x) (λ b. if b then one else other)) vs

-- ---- loops

-- what follows a turn of a loop: the next turns, unless the turn leaves the loop
abbrev pub turned : {I S : Type 0} → Outcome I S → RunOf I S → Outcome I S
turned (Done vs s) next = next s
turned (Left Continue vs s) next = next s
turned (Left Break vs s) next = Done [] s
turned (Left Return vs s) next = Left Return vs s
turned (Aborted code) next = Aborted code
turned Unfinished next = Unfinished
turned Stuck next = Stuck

abbrev pub loops : {I S : Type 0} → RunOf I S → RunOf I S → RunOf I S
loops turn next s = turned (turn s) next

-- ---- catching a jump

abbrev pub same_jump : Jump → Jump → Bool
same_jump Break Break = true
same_jump Continue Continue = true
same_jump Return Return = true
same_jump _ _ = false

-- code that is left so goes on here with the items of the jump
abbrev pub caught : {I S : Type 0} → Jump → Outcome I S → Outcome I S
caught j (Done vs s) = Done vs s
caught j (Left k vs s) = if same_jump j k then Done vs s else Left k vs s
caught j (Aborted code) = Aborted code
caught j Unfinished = Unfinished
caught j Stuck = Stuck
