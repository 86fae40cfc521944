-- The cause of each status of a run: apart from faults and want of memory, the status is this one exactly if its cause
-- holds.
use Rattle.std.specs.Prelude.{◌≡◌, ℕ, true, ◌<◌, ◌≤◌, ◌⊎◌, ◌↔◌, List, length, Option, Some, IfSome}
use Rattle.std.specs.List.{AllByRecursion}
use Rattle.std.specs.FinMap as map
use Rattle.base.specs.Rules.{tells_place}
use Rattle.base.specs.declared.rule.Rule.{Rule}
use Rattle.report.specs.Provided.{ProvidedFiles, AreProvided}
use Rattle.report.specs.Outside.{Files, HasFaulted, IsLongFile}
use Rattle.front_end.specs.Program.{IsProgramOf, ProgramStopped}
use Rattle.front_end.specs.declared.fault.FileFault.TheVariants.{Breaks, Passes}
use Rattle.front_end.specs.declared.fault.FileLimit.{FileLimit}
use Rattle.report.specs.declared.status.Device.TheVariants.{Source, Sink}
use Rattle.report.specs.declared.status.LimitKind.TheVariants.{Files as files_kind, Bytes}
use Rattle.report.specs.declared.status.Status.{Status}
use Rattle.report.specs.declared.status.Status.TheVariants.{AllProved, NotAllProved, Refused, Fault, BadWords, Limit, NoMemory}
use Rattle.sum_tree.specs.SumModuleData.{SumModuleData}
use Rattle.base.specs.Pairs.{Paired}
use Rattle.driver.specs.Stages.{NameFiles, limit_kind, line_in}

-- ---- statuses

-- A fact for every status but two: memory may run out in any run, and the sink may fail in any run.
abbrev pub UnlessFree : Status → Type 0 → Type 0
UnlessFree NoMemory P = Unit {0}
UnlessFree (Fault Sink) P = Unit {0}
UnlessFree _ P = P

-- the file with this number breaks this rule on this line
abbrev pub refused : Rule → ℕ → ℕ → Option (List ℕ) → Status
refused rule file line marker = Refused (record { rule = rule; file = file; line = line; marker = marker })

-- the file breaks this rule, on some line
abbrev pub IsRefused : Rule → ℕ → Option (List ℕ) → Status → Type 0
IsRefused rule file marker status = (line : ℕ) × (status ≡ refused rule file line marker)

-- the run has a report
abbrev pub IsReported : Status → Type 0
IsReported status = (status ≡ AllProved) ⊎ (status ≡ NotAllProved)

-- ---- causes in files

-- the stages stop because this file breaks this rule, which this marker explains
abbrev pub BreaksRule : List (List ℕ) → Rule → ℕ → Option (List ℕ) → Type 0
BreaksRule files rule file marker = (offset : ℕ) × ProgramStopped files file (Breaks rule offset marker)

-- the same, on this line
pub record BreaksRuleOn (files : List (List ℕ)) (rule : Rule) (file line : ℕ) (marker : Option (List ℕ)) : Type 0 where
  pub offset : ℕ
  pub stopped : ProgramStopped files file (Breaks rule offset marker)
  pub line_is : line ≡ line_in files file offset

-- the stages stop because a file exceeds this limit, with this count
abbrev pub PassesLimit : List (List ℕ) → FileLimit → ℕ → Type 0
PassesLimit files limit count = (file : ℕ) × ProgramStopped files file (Passes limit count)

-- the files contain a program
abbrev pub HaveProgram : List (List ℕ) → Type 0
HaveProgram files = (program : List SumModuleData) × IsProgramOf files program

-- ---- each status with its cause

-- Causes for files with these bytes, none of which is too long: for each rule and each limit, the status is this one
-- exactly if the stages stop for it. For a rule without a position, no clause states which line is named. The last part
-- is completeness: a program has a report.
pub record TextCauses (files : List (List ℕ)) (status : Status) : Type 0 where
  pub rule : (rule : Rule) (file : ℕ) (marker : Option (List ℕ)) → IsRefused rule file marker status ↔ BreaksRule files rule file marker
  pub line : (rule : Rule) → tells_place rule ≡ true → (file line : ℕ) (marker : Option (List ℕ)) → (status ≡ refused rule file line marker) ↔ BreaksRuleOn files rule file line marker
  pub limit : (limit : FileLimit) (count : ℕ) → (status ≡ Limit (limit_kind limit) count) ↔ PassesLimit files limit count
  pub reported : IsReported status ↔ HaveProgram files

-- the files with these names have these bytes
abbrev pub AreKnown : Files → List (List ℕ) → List (List ℕ) → Type 0
AreKnown known names files = Paired (λ name bytes. map.get known name ≡ Some bytes) names files

-- a file with one of these names is too long
abbrev pub SomeIsLong : Files → List (List ℕ) → Type 0
SomeIsLong known names = ¬ AllByRecursion (λ name. ¬ IsLongFile known name 1048576) names

-- Causes for the files with these names. If the source lacks one, this is a fault, which it counts.
pub record FileCauses (known : Files) (names : List (List ℕ)) (status : Status) : Type 0 where
  pub too_long : (count : ℕ) → (status ≡ Limit Bytes count) ↔ ((count ≡ 1048577) × SomeIsLong known names)
  pub texts : (files : List (List ℕ)) → AreKnown known names files → AllByRecursion (λ bytes. length bytes ≤ 1048576) files → TextCauses files status

-- Causes for the bytes that the source provided, a file for each name. It is a premise that all of them were provided:
-- if one was too long, or the source failed, fewer were.
abbrev pub ProvidedCauses : ProvidedFiles → ProvidedFiles → List (List ℕ) → Status → Type 0
ProvidedCauses before after names status = (files : List (List ℕ)) → AreProvided before after names files → TextCauses files status

-- Causes for a run; the lists are the files provided before and after, and the numbers are the source's counts of
-- faults. The part `provided` holds for every source; `files` is for a source that makes its files known, and for runs in
-- which it did not fail.
pub record Causes (words : List (List ℕ)) (holds : Option Files) (before after : ProvidedFiles) (old new : ℕ) (status : Status) : Type 0 where
  pub bad_words : UnlessFree status ((status ≡ BadWords) ↔ (¬ NameFiles words))
  pub too_many : UnlessFree status ((count : ℕ) → (status ≡ Limit files_kind count) ↔ (NameFiles words × (count ≡ length words) × (64 < count)))
  pub source_fault : status ≡ Fault Source → HasFaulted old new
  pub provided : NameFiles words → length words ≤ 64 → UnlessFree status (ProvidedCauses before after words status)
  pub files : NameFiles words → length words ≤ 64 → ¬ HasFaulted old new → IfSome holds (λ known. UnlessFree status (FileCauses known words status))
