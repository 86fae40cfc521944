-- Facts about why files were not read.
use Rattle.std.specs.Prelude.{◌≡◌, ℕ, if◌then◌else◌, None}
use Rattle.base.specs.Rules.{tells_place}
use Rattle.base.specs.declared.rule.Rule.{Rule}
use Rattle.front_end.specs.declared.fault.FileFault.{FileFault}
use Rattle.front_end.specs.declared.fault.FileFault.TheVariants.{Breaks, Passes}
use Rattle.front_end.specs.declared.fault.ProgramFault.{ProgramFault}
use Rattle.front_end.specs.declared.fault.ProgramFault.TheVariants.{InFile, NoMemory}

-- a property of the number of the file and of its fault
abbrev pub IfInFile : ProgramFault → (ℕ → FileFault → Type 0) → Type 0
IfInFile (InFile file fault) P = P file fault
IfInFile NoMemory P = Unit {0}

-- the file breaks this rule at this offset, without a marker
abbrev pub breaks : Rule → ℕ → FileFault
breaks rule offset = Breaks rule offset None

-- a fault, without an offset that no definition determines
abbrev pub without_offset : FileFault → FileFault
without_offset (Breaks rule offset marker) = Breaks rule (if tells_place rule then offset else 0) marker
without_offset (Passes limit count) = Passes limit count

-- reading stopped at the same file for the same reason
pub record IsSameStop (file other_file : ℕ) (fault other : FileFault) : Type 0 where
  pub file_is : file ≡ other_file
  pub fault_is : without_offset fault ≡ without_offset other
