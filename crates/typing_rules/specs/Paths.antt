-- The control paths through code: a branch may go either way, and a loop may run any number of times. A path is the
-- list of its events and the way it exits the code. A path may also end before that: where the run aborts (in a call or
-- an operator too), or where the path is followed no further. So code that does not terminate has paths as well.
use Rattle.std.specs.Prelude.{◌≡◌, ℕ, zero, suc, ◌⊎◌, List, [], ◌++◌, map}
use Rattle.typing_rules.specs.Events.{Event, Ended}
use Rattle.typing_rules.specs.Flows.{Way, Onward, Broken, Continued, Returned, Flow, Happens, Jump, Aborts, Then, Either, Turns, Scope, At}

pub data Exit : Type 0 where
  Leaves : Way → Exit
  -- the run has aborted, or the path is followed no further
  Over : Exit
  -- the path has reached the node with this number, and is followed no further
  Stopped : ℕ → Exit

-- paths through one piece of code
abbrev pub Paths : Type 1
Paths = List Event → Exit → Type 0

-- the path does not go on to the code that follows
abbrev pub IsAway : Exit → Type 0
IsAway (Leaves Onward) = ⊥
IsAway (Leaves Broken) = Unit {0}
IsAway (Leaves Continued) = Unit {0}
IsAway (Leaves Returned) = Unit {0}
IsAway Over = Unit {0}
IsAway (Stopped n) = Unit {0}

-- a path through the first goes on, followed by one through the second
pub record Joined (P Q : List Event → Exit → Type 0) (events : List Event) (exit : Exit) : Type 0 where
  pub first : List Event
  pub rest : List Event
  pub split : events ≡ first ++ rest
  pub begins : P first (Leaves Onward)
  pub goes_on : Q rest exit

-- one piece of code, followed by another
pub data After (P Q : List Event → Exit → Type 0) (events : List Event) (exit : Exit) : Type 0 where
  LeavesFirst : P events exit → IsAway exit → After P Q events exit
  GoesOn : Joined P Q events exit → After P Q events exit
  IsOver : P events (Leaves Onward) → exit ≡ Over → After P Q events exit

-- a body exits an iteration of a loop: to the next iteration, or out of the loop to the code that follows

abbrev pub to_next : Paths → Paths
to_next P events (Leaves Onward) = P events (Leaves Onward) ⊎ P events (Leaves Continued)
to_next P events (Leaves Broken) = ⊥
to_next P events (Leaves Continued) = ⊥
to_next P events (Leaves Returned) = ⊥
to_next P events Over = ⊥
to_next P events (Stopped n) = ⊥

abbrev pub to_out : Paths → Paths
to_out P events (Leaves Onward) = P events (Leaves Broken)
to_out P events (Leaves Broken) = ⊥
to_out P events (Leaves Continued) = ⊥
to_out P events (Leaves Returned) = P events (Leaves Returned)
to_out P events Over = P events Over ⊎ to_next P events (Leaves Onward)
to_out P events (Stopped n) = P events (Stopped n)

-- so many iterations, from each of which the path goes on to the next
abbrev pub times : ℕ → Paths → Paths
times zero P events exit = (events ≡ []) × (exit ≡ Leaves Onward)
times (suc n) P events exit = Joined P (times n P) events exit

-- any number of iterations that lead to a next one, and a last one, in which the path leaves the loop or is over
abbrev pub turns : Paths → Paths → Paths
turns P Q events exit = (n : ℕ) × Joined (times n (After P (to_next Q))) (After P (to_out Q)) events exit

-- The locals of a block end where the path leaves it. A path that is over leaves no value behind.

pub record Closed (locals : List ℕ) (P : List Event → Exit → Type 0) (events : List Event) (exit : Exit) : Type 0 where
  pub first : List Event
  pub split : events ≡ first ++ map Ended locals
  pub inside : P first exit

abbrev pub within : List ℕ → Paths → Paths
within locals P events (Leaves way) = Closed locals P events (Leaves way)
within locals P events Over = P events Over
within locals P events (Stopped n) = P events (Stopped n)

-- the paths through code
abbrev pub Goes : Flow → List Event → Exit → Type 0
Goes (Happens es) events exit = (events ≡ es) × (exit ≡ Leaves Onward)
Goes (Jump way) events exit = (events ≡ []) × (exit ≡ Leaves way)
Goes Aborts events exit = (events ≡ []) × (exit ≡ Over)
Goes (Then f g) events exit = After (Goes f) (Goes g) events exit
Goes (Either f g) events exit = Goes f events exit ⊎ Goes g events exit
Goes (Turns f g) events exit = turns (Goes f) (Goes g) events exit
Goes (Scope locals f) events exit = within locals (Goes f) events exit
Goes (At n f) events exit = ((events ≡ []) × (exit ≡ Stopped n)) ⊎ Goes f events exit
