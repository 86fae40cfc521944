-- What is printed for a run without a report.
use Rattle.std.specs.Prelude.{ℕ, List, [], slice_index_or}
use Rattle.driver.specs.declared.stages.RunStop.{RunStop}
use Rattle.driver.specs.declared.stages.RunStop.TheVariants.{TooManyFiles, SourceFault, Limit as limit_stop, Refused as refused_stop, NoMemory as memory_stop}
use Rattle.report.specs.declared.status.Status.{Status}
use Rattle.report.specs.declared.status.Status.TheVariants.{Refused, Fault, Limit, NoMemory}
use Rattle.report.specs.declared.status.Device.TheVariants.{Source}
use Rattle.report.specs.declared.status.LimitKind.TheVariants.{Files}
use Rattle.report.specs.Status.{files_limit_line, limit_line, no_memory_line, refusal_line, source_fault_line}

abbrev pub status_of : RunStop → Status
status_of (TooManyFiles count) = Limit Files count
status_of (SourceFault file) = Fault Source
status_of (limit_stop file kind count) = Limit kind count
status_of (refused_stop refusal) = Refused refusal
status_of memory_stop = NoMemory

-- the name of the file with this number
abbrev pub name_of : List (List ℕ) → ℕ → List ℕ
name_of names file = slice_index_or names file []

-- the line that states why the files with these names have no report
abbrev pub stop_line : List (List ℕ) → RunStop → List ℕ
stop_line names (TooManyFiles count) = files_limit_line count
stop_line names (SourceFault file) = source_fault_line (name_of names file)
stop_line names (limit_stop file kind count) = limit_line (name_of names file) kind
stop_line names (refused_stop refusal) = refusal_line (name_of names refusal.file) refusal
stop_line names memory_stop = no_memory_line
