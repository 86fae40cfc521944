-- Visibility, and the absence of cycles. Source: The Move Book, "Functions", "Friends", "Structs and Resources",
-- "Global Storage Operators" and "Uses and Aliases".
use Rattle.std.specs.Prelude.{◌≡◌, ◌⊎◌, ℕ, List, All}
use Rattle.base.specs.declared.span.Span.{Span}
use Rattle.base.specs.declared.rule.Rule.{Rule}
use Rattle.base.specs.declared.rule.Rule.TheVariants.{NotVisible, Cycle}
use Rattle.syntax_tree.specs.SourceModuleData.{SourceModuleData}
use Rattle.program.specs.declared.program.Program.{Program}
use Rattle.program.specs.Order.{IsFirst}
use Rattle.scopes.specs.Visible.{IsBarred, IsVisible, codes_of}
use Rattle.scopes.specs.Uses.{uses_of}
use Rattle.typing_rules.specs.Faults.{BreaksNone, BreaksVisibility}
use Rattle.declaration_cycles.specs.Circular.{HaveNoCycles, IsCircular, Kind, kinds_of}
use Rattle.front_end.specs.Chain.{FileStage, allows}
use Rattle.front_end.specs.FileFault.{breaks}
use Rattle.front_end.specs.Named.{NamedData}
use Rattle.front_end.specs.declared.fault.FileFault.{FileFault}

-- The rule is broken at the first span with the property; a span names its file.
pub record StopsAt (rule : Rule) (IsSo : Span → Type 0) (file : ℕ) (fault : FileFault) : Type 0 where
  pub span : Span
  pub file_is : file ≡ span.file
  pub fault_is : fault ≡ breaks rule span.start
  pub first : IsFirst IsSo span

-- ---- visibility

-- each function and constant uses only what visibility allows: what it names, and what its types determine that it uses
pub record IsAllVisible (program : Program) : Type 0 where
  pub named : All (IsVisible program) (codes_of program)
  pub typed : BreaksNone (BreaksVisibility program)

-- a function or a constant with this span uses what visibility forbids
abbrev pub UsesBarred : Program → Span → Type 0
UsesBarred program span = IsBarred program span ⊎ BreaksVisibility program span

-- the first one that does so has this fault
abbrev pub HasBarred : Program → ℕ → FileFault → Type 0
HasBarred program = StopsAt NotVisible (UsesBarred program)

abbrev pub visible_stage : FileStage NamedData NamedData
visible_stage = allows (λ given. IsAllVisible given.program) (λ given. HasBarred given.program)

-- ---- cycles

-- the declarations of a program, kind by kind, with the edges between them
abbrev pub kinds_in : List (List SourceModuleData) → Program → List Kind
kinds_in sources program = kinds_of program (uses_of sources program)

abbrev pub HasNoCycle : List (List SourceModuleData) → Program → Type 0
HasNoCycle sources program = HaveNoCycles (kinds_in sources program)

-- the first declaration on a cycle has this fault
abbrev pub HasCycle : List (List SourceModuleData) → Program → ℕ → FileFault → Type 0
HasCycle sources program = StopsAt Cycle (IsCircular (kinds_in sources program))

abbrev pub cycle_stage : FileStage NamedData NamedData
cycle_stage = allows (λ given. HasNoCycle given.sources given.program) (λ given. HasCycle given.sources given.program)
