-- A run that aborts ends in the state of its start; a vector that is as long as it can be takes no more items.
use Rattle.std.proofs.Common.{◌≡◌, ◌+◌, ◌^◌, Bool, false, [], ◌∷◌, ◌++◌, if◌then◌else◌, length, nat_lt, refl, ap, sym, ◌∙◌, arith}
use Rattle.std.proofs.lemmas.Bool.Decides.{nat_tests}
use Rattle.code_tree.specs.Outcomes.{Outcome, Done, Left, Aborted, Unfinished, Stuck, unfinished}
use Rattle.fol.specs.Operators.{vector_of}
use Rattle.semantics.specs.States.{Item, State, Run, write_value}
use Rattle.semantics.specs.Operations.{IsFull}
use Rattle.semantics.specs.TypedTrees.{TypedFunctions}
use Rattle.semantics.specs.Runs.{End, Returned, AbortedWith, OutOfTurns, Wrong, run, end_of, ChangesNothingByAborts}

-- the state of an abort, and another one for any other end
state_of_abort : State → End → State
state_of_abort other (Returned xs s) = other
state_of_abort other (AbortedWith code s) = s
state_of_abort other OutOfTurns = other
state_of_abort other Wrong = other

of_start : (start : State) (o : Outcome Item State) → state_of_abort start (end_of start o) ≡ start
unfolding state_of_abort
of_start start (Done vs s) = refl
of_start start (Left j vs s) = refl
of_start start (Aborted code) = refl
of_start start Unfinished = refl
of_start start Stuck = refl

pub aborts_change_nothing : (functions : TypedFunctions) → ChangesNothingByAborts functions
unfolding state_of_abort
aborts_change_nothing functions n name named arguments start end code h =
    ap (state_of_abort start) (sym h) ∙ of_start start (run functions n name named arguments start)

chosen_false : (b : Bool) (r : Run) (s : State) → b ≡ false → (if b then r else unfinished) s ≡ Unfinished
chosen_false b r s h = ap (λ x. (if x then r else unfinished) s) h

pub full : IsFull
full p vs v s h =
    let test : nat_lt (length vs + 1) (2 ^ 64) ≡ false = grind (arith, nat_tests) in
    chosen_false (nat_lt (length vs + 1) (2 ^ 64)) (write_value p (vector_of (vs ++ v ∷ []))) s test
