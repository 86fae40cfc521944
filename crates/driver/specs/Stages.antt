-- What each stage of a run requires, and why it stops.
use Rattle.std.specs.Prelude.{◌≡◌, ℕ, ◌<◌, ◌≤◌, Bool, true, false, not, ◌==◌, List, [], ◌∷◌, length, take, slice_index_or, Option, Some, Result, Err, IfSome}
use Rattle.std.specs.List.{list_all}
use Rattle.std.specs.FinMap as map
use Rattle.report.specs.Provided.{ProvidedFiles, AreProvided}
use Rattle.report.specs.Outside.{Files, HasFaulted, IsLongFile}
use Rattle.report.specs.Lines.{line_of}
use Rattle.report.specs.declared.status.LimitKind.{LimitKind}
use Rattle.report.specs.declared.status.LimitKind.TheVariants.{Bytes, Tokens, Nesting, Locals}
use Rattle.base.specs.Pairs.{Paired}
use Rattle.front_end.specs.Numbered.{IsFirst}
use Rattle.front_end.specs.Program.{ProgramStopped}
use Rattle.front_end.specs.declared.fault.FileFault.{FileFault}
use Rattle.front_end.specs.declared.fault.FileFault.TheVariants.{Breaks, Passes}
use Rattle.front_end.specs.declared.fault.FileLimit.{FileLimit}
use Rattle.front_end.specs.declared.fault.FileLimit.TheVariants.{Tokens as of_tokens, Nesting as of_nesting, Locals as of_locals}
use Rattle.driver.specs.declared.stages.RunStop.{RunStop}
use Rattle.driver.specs.declared.stages.RunStop.TheVariants.{SourceFault, Limit, Refused, NoMemory}

-- ---- words

abbrev pub begins_with_dash : List ℕ → Bool
begins_with_dash [] = false
begins_with_dash (b ∷ bs) = b == 45

-- no word is an option
abbrev pub name_files : List (List ℕ) → Bool
name_files words = list_all (λ w. not (begins_with_dash w)) words

abbrev pub NameFiles : List (List ℕ) → Type 0
NameFiles words = name_files words ≡ true

-- ---- fetches

-- The file with this name has these bytes: if the source makes its files known, they are those.
pub record HasBytes (holds : Option Files) (name : List ℕ) (bytes : List ℕ) : Type 0 where
  pub known : IfSome holds (λ files. map.get files name ≡ Some bytes)
  pub short : length bytes ≤ 1048576

-- the files with these names have these bytes
abbrev pub HaveBytes : Option Files → List (List ℕ) → List (List ℕ) → Type 0
HaveBytes holds names files = Paired (HasBytes holds) names files

abbrev pub IsFetched : Option Files → ℕ → List ℕ → Type 0
IsFetched holds n name = (bytes : List ℕ) × HasBytes holds name bytes

abbrev pub IsLong : Option Files → ℕ → List ℕ → Type 0
IsLong holds n name = IfSome holds (λ files. IsLongFile files name 1048576)

-- a fact for every result but a fault of the source
abbrev pub UnlessSourceFault : {T : Type 0} → Result T RunStop → Type 0 → Type 0
UnlessSourceFault (Err (SourceFault file)) P = Unit {0}
UnlessSourceFault _ P = P

-- Why the fetch of the file with this number and name stopped.
abbrev pub IsFetchStop : Option Files → ℕ → List ℕ → ℕ → ℕ → RunStop → Type 0
IsFetchStop holds n name old new (SourceFault file) = (file ≡ n) × HasFaulted old new
IsFetchStop holds n name old new (Limit file Bytes count) = (file ≡ n) × (count ≡ 1048577) × IsLong holds n name
IsFetchStop holds n name old new NoMemory = Unit {0}
IsFetchStop holds n name old new _ = ⊥

-- Why the fetches stopped: each file before this one was fetched.
abbrev pub FetchStopped : Option Files → List (List ℕ) → ℕ → ℕ → RunStop → Type 0
FetchStopped holds names old new (SourceFault file) = HasFaulted old new × IsFirst (IsFetched holds) (λ n name. Unit {0}) names file
FetchStopped holds names old new (Limit file Bytes count) = (count ≡ 1048577) × IsFirst (IsFetched holds) (IsLong holds) names file
FetchStopped holds names old new NoMemory = Unit {0}
FetchStopped holds names old new _ = ⊥

-- Exactly the files before this one were provided.
pub record ProvidedBefore (before after : ProvidedFiles) (names : List (List ℕ)) (file : ℕ) : Type 0 where
  pub within : file < length names
  pub files : List (List ℕ)
  pub provided : AreProvided before after (take file names) files

-- The files provided when the fetches stopped at a file.
abbrev pub ProvidedTo : ProvidedFiles → ProvidedFiles → List (List ℕ) → RunStop → Type 0
ProvidedTo before after names (SourceFault file) = ProvidedBefore before after names file
ProvidedTo before after names (Limit file kind count) = ProvidedBefore before after names file
ProvidedTo before after names _ = Unit {0}

-- ---- programs

-- the line of a byte offset in the file with this number
abbrev pub line_in : List (List ℕ) → ℕ → ℕ → ℕ
line_in files file offset = line_of (slice_index_or files file []) offset

-- the limit of a run for a limit of a file
abbrev pub limit_kind : FileLimit → LimitKind
limit_kind of_tokens = Tokens
limit_kind of_nesting = Nesting
limit_kind of_locals = Locals

-- The reason why a run stops for a fault in a file, whatever the rule or the limit.
abbrev pub stop_of : List (List ℕ) → ℕ → FileFault → RunStop
stop_of files file (Breaks rule offset marker) = Refused (record { rule = rule; file = file; line = line_in files file offset; marker = marker })
stop_of files file (Passes limit count) = Limit file (limit_kind limit) count

-- the files contain no program
pub record IsProgramStop (files : List (List ℕ)) (stop : RunStop) : Type 0 where
  pub file : ℕ
  pub fault : FileFault
  pub stopped : ProgramStopped files file fault
  pub stop_is : stop ≡ stop_of files file fault

-- Why the reading of the program stopped.
abbrev pub ReadStopped : List (List ℕ) → RunStop → Type 0
ReadStopped files NoMemory = Unit {0}
ReadStopped files stop = IsProgramStop files stop
