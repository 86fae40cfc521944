-- The bytes that a sink took of a text with its status.
use Rattle.std.specs.Prelude.{◌≡◌, ℕ, List, Option, Result, Ok, Err}
use Rattle.std.specs.Io.KnownBytes.{append_known}
use Rattle.report.specs.Outside.{HasFaulted}
use Rattle.report.specs.SinkWriting.{TakesPrefix}
use Rattle.report.specs.declared.status.Status.{Status}
use Rattle.report.specs.declared.outside.writing.SinkFault.{SinkFault}

-- exactly this status and this text
abbrev pub IsJust : Status → List ℕ → Status → List ℕ → Type 0
IsJust status text other_status other_text = (other_status ≡ status) × (other_text ≡ text)

-- The sink took the whole text.
pub record WroteAll (IsText : Status → List ℕ → Type 0) (old new : Option (List ℕ)) (status : Status) : Type 0 where
  pub text : List ℕ
  pub output : IsText status text
  pub taken : new ≡ append_known old text

-- The sink failed, and took a prefix of the text.
pub record WrotePrefix (IsText : Status → List ℕ → Type 0) (old new : Option (List ℕ)) (old_faults new_faults : ℕ) : Type 0 where
  pub status : Status
  pub text : List ℕ
  pub output : IsText status text
  pub taken : TakesPrefix old new text
  pub fault : HasFaulted old_faults new_faults

abbrev pub Writes : (Status → List ℕ → Type 0) → Option (List ℕ) → Option (List ℕ) → ℕ → ℕ → Result Status SinkFault → Type 0
Writes IsText old new old_faults new_faults (Ok status) = WroteAll IsText old new status
Writes IsText old new old_faults new_faults (Err fault) = WrotePrefix IsText old new old_faults new_faults
