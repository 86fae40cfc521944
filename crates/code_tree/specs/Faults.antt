-- Why code is not made.
use Rattle.std.specs.Prelude.{◌≡◌, ◌⊎◌, ◌<◌, ◌-◌, ◌^◌, ℕ, Result, Ok, Err}
use Rattle.code_tree.specs.declared.fault.CodeFault.{CodeFault}
use Rattle.code_tree.specs.declared.fault.CodeFault.TheVariants.{CodeLimit, NoMemory}
use Rattle.code_tree.specs.declared.fault.Given.{Given}
use Rattle.code_tree.specs.declared.fault.Given.TheVariants.{Own as own_given, NoMemory as no_memory_given}
use Rattle.code_tree.specs.declared.fault.PassFault.{PassFault}
use Rattle.code_tree.specs.declared.fault.PassFault.TheVariants.{CodeLimit as limit_passed, Own as own_fault, NoMemory as no_memory_left}

-- a counter of faults rose, or stands at the last value that it has
abbrev pub HasFaulted : ℕ → ℕ → Type 0
HasFaulted old new = (old < new) ⊎ (new ≡ 2 ^ 64 - 1)

-- if the limit was passed, X holds of the number of nodes
abbrev pub OnLimit : {A : Type 0} → Result A CodeFault → (ℕ → Type 0) → Type 0
OnLimit (Ok a) X = Unit {0}
OnLimit (Err (CodeLimit n)) X = X n
OnLimit (Err NoMemory) X = Unit {0}

abbrev pub OnOwn : {A F : Type 0} → Result A (Given F) → Type 0 → Type 0
OnOwn (Ok a) X = Unit {0}
OnOwn (Err (own_given f)) X = X
OnOwn (Err no_memory_given) X = Unit {0}

abbrev pub OnPassLimit : {A F : Type 0} → Result A (PassFault F) → (ℕ → Type 0) → Type 0
OnPassLimit (Ok a) X = Unit {0}
OnPassLimit (Err (limit_passed n)) X = X n
OnPassLimit (Err (own_fault f)) X = Unit {0}
OnPassLimit (Err no_memory_left) X = Unit {0}

abbrev pub OnOwnFault : {A F : Type 0} → Result A (PassFault F) → Type 0 → Type 0
OnOwnFault (Ok a) X = Unit {0}
OnOwnFault (Err (limit_passed n)) X = Unit {0}
OnOwnFault (Err (own_fault f)) X = X
OnOwnFault (Err no_memory_left) X = Unit {0}

-- ---- the fault of a pass that a part of it comes to

abbrev pub of_given : {F : Type 0} → Given F → PassFault F
of_given (own_given f) = own_fault f
of_given no_memory_given = no_memory_left

abbrev pub of_code_fault : {F : Type 0} → CodeFault → PassFault F
of_code_fault (CodeLimit n) = limit_passed n
of_code_fault NoMemory = no_memory_left
