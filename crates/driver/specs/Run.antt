-- What a whole run writes, and with which status it ends: the definitions of the main theorem.
use Rattle.std.specs.Prelude.{◌≡◌, ℕ, ◌<◌, ◌≤◌, ◌⊎◌, if◌then◌else◌, List, length, Option}
use Rattle.std.specs.List.{list_all}
use Rattle.report.specs.Provided.{ProvidedFiles, AreProvided}
use Rattle.report.specs.Outside.{Files}
use Rattle.front_end.specs.Program.{IsProgramOf}
use Rattle.report.specs.ReportData.{ReportData}
use Rattle.report.specs.ReportText.{is_proved, report_text}
use Rattle.report.specs.Status.{no_memory_line, usage_line}
use Rattle.report.specs.Writes.{WroteAll, WrotePrefix}
use Rattle.report.specs.declared.status.Device.TheVariants.{Source, Sink}
use Rattle.report.specs.declared.status.Status.{Status}
use Rattle.report.specs.declared.status.Status.TheVariants.{AllProved, NotAllProved, Refused, Fault, BadWords, Limit, NoMemory}
use Rattle.sum_tree.specs.SumModuleData.{SumModuleData}
use Rattle.driver.specs.Verified.{IsReportOf}
use Rattle.driver.specs.Outcome.{status_of, stop_line}
use Rattle.driver.specs.Stages.{FetchStopped, ProvidedTo, HaveBytes, NameFiles, ReadStopped}
use Rattle.driver.specs.declared.stages.RunStop.{RunStop}
use Rattle.driver.specs.declared.stages.RunStop.TheVariants.{TooManyFiles}

-- ---- runs without a report

-- The files are more than a run may have.
pub record IsTooMany (names : List (List ℕ)) (stop : RunStop) : Type 0 where
  pub many : 64 < length names
  pub stop_is : stop ≡ TooManyFiles (length names)

-- The files were fetched, and contain no program.
pub record StoppedAtProgram (holds : Option Files) (before after : ProvidedFiles) (names : List (List ℕ)) (stop : RunStop) : Type 0 where
  pub few : length names ≤ 64
  pub files : List (List ℕ)
  pub have_bytes : HaveBytes holds names files
  pub provided : AreProvided before after names files
  pub stopped : ReadStopped files stop

-- A file was not fetched.
pub record StoppedAtFetch (holds : Option Files) (before after : ProvidedFiles) (names : List (List ℕ)) (old new : ℕ) (stop : RunStop) : Type 0 where
  pub few : length names ≤ 64
  pub stopped : FetchStopped holds names old new stop
  pub provided : ProvidedTo before after names stop

-- Why a run has no report; the lists are the files provided before and after, and the numbers are the source's counts
-- of faults.
abbrev pub RunStopped : Option Files → ProvidedFiles → ProvidedFiles → List (List ℕ) → ℕ → ℕ → RunStop → Type 0
RunStopped holds before after names old new stop =
    IsTooMany names stop ⊎ (StoppedAtFetch holds before after names old new stop ⊎ StoppedAtProgram holds before after names stop)

-- ---- runs with a report

-- The files contain one program, and the report is that of the program. They are those that the source makes known, if
-- it does, and in any case those that it provided in this run.
pub record IsVerified (holds : Option Files) (before after : ProvidedFiles) (names : List (List ℕ)) (report : ReportData) : Type 0 where
  pub few : length names ≤ 64
  pub files : List (List ℕ)
  pub have_bytes : HaveBytes holds names files
  pub provided : AreProvided before after names files
  pub program : List SumModuleData
  pub is_program : IsProgramOf files program
  pub is_report : IsReportOf names files program report

abbrev pub report_status : ReportData → Status
report_status report = if list_all (λ f. is_proved f.verdict) report.functions then AllProved else NotAllProved

-- ---- output

-- the words are not valid for this program
pub record IsUsage (words : List (List ℕ)) (status : Status) (text : List ℕ) : Type 0 where
  pub refused : ¬ NameFiles words
  pub status_is : status ≡ BadWords
  pub text_is : text ≡ usage_line

-- the line that states why the run has no report
pub record IsStopLine (words : List (List ℕ)) (holds : Option Files) (before after : ProvidedFiles) (old new : ℕ) (status : Status) (text : List ℕ) : Type 0 where
  pub named : NameFiles words
  pub stop : RunStop
  pub stopped : RunStopped holds before after words old new stop
  pub status_is : status ≡ status_of stop
  pub text_is : text ≡ stop_line words stop

-- the whole report
pub record IsReport (words : List (List ℕ)) (holds : Option Files) (before after : ProvidedFiles) (status : Status) (text : List ℕ) : Type 0 where
  pub named : NameFiles words
  pub report : ReportData
  pub verified : IsVerified holds before after words report
  pub status_is : status ≡ report_status report
  pub text_is : text ≡ report_text report

-- the line that states that memory ran out
pub record IsWant (status : Status) (text : List ℕ) : Type 0 where
  pub status_is : status ≡ NoMemory
  pub text_is : text ≡ no_memory_line

-- the text for one stop, or for one report
abbrev pub IsStopText : List (List ℕ) → RunStop → Status → List ℕ → Type 0
IsStopText names stop status text = ((status ≡ status_of stop) × (text ≡ stop_line names stop)) ⊎ IsWant status text

abbrev pub IsReportText : ReportData → Status → List ℕ → Type 0
IsReportText report status text = ((status ≡ report_status report) × (text ≡ report_text report)) ⊎ IsWant status text

-- This text belongs to this status.
abbrev pub IsOutput : List (List ℕ) → Option Files → ProvidedFiles → ProvidedFiles → ℕ → ℕ → Status → List ℕ → Type 0
IsOutput words holds before after old new status text =
    IsUsage words status text ⊎ (IsStopLine words holds before after old new status text ⊎ (IsReport words holds before after status text ⊎ IsWant status text))

-- How a run ends: after a fault of the sink a prefix of the output was written, and with every other status all of it.
abbrev pub Ends : (Status → List ℕ → Type 0) → Option (List ℕ) → Option (List ℕ) → ℕ → ℕ → Status → Type 0
Ends IsText old new old_faults new_faults (Fault Sink) = WrotePrefix IsText old new old_faults new_faults
Ends IsText old new old_faults new_faults (Fault Source) = WroteAll IsText old new (Fault Source)
Ends IsText old new old_faults new_faults AllProved = WroteAll IsText old new AllProved
Ends IsText old new old_faults new_faults NotAllProved = WroteAll IsText old new NotAllProved
Ends IsText old new old_faults new_faults (Refused refusal) = WroteAll IsText old new (Refused refusal)
Ends IsText old new old_faults new_faults BadWords = WroteAll IsText old new BadWords
Ends IsText old new old_faults new_faults (Limit kind count) = WroteAll IsText old new (Limit kind count)
Ends IsText old new old_faults new_faults NoMemory = WroteAll IsText old new NoMemory
