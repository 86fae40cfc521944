-- The fault of one file.
use Rattle.std.specs.Prelude.{◌≡◌, ℕ}
use Rattle.front_end.specs.declared.fault.FileFault.{FileFault}

-- the fault is in the file with this number, and has the property
abbrev pub IsIn : ℕ → (FileFault → Type 0) → ℕ → FileFault → Type 0
IsIn n P file fault = (file ≡ n) × P fault
