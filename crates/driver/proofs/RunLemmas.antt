-- The output of one part of a run as the output of the whole run.
use Rattle.std.proofs.Common.{◌≡◌, ℕ, List, Option, Result, Ok, Err, inl, inr, Bool, true, false, if◌then◌else◌}
use Rattle.std.specs.List.{list_all}
use Rattle.driver.specs.declared.stages.RunStop.{RunStop}
use Rattle.driver.specs.declared.stages.RunStop.TheVariants.{TooManyFiles, SourceFault, Limit as limit_stop, Refused as refused_stop, NoMemory as memory_stop}
use Rattle.report.specs.declared.status.Status.{Status}
use Rattle.report.specs.declared.status.Status.TheVariants.{AllProved, NotAllProved, Refused, Fault, BadWords, Limit, NoMemory}
use Rattle.report.specs.declared.status.Device.TheVariants.{Source, Sink}
use Rattle.report.specs.declared.outside.writing.SinkFault.{SinkFault}
use Rattle.driver.specs.Outcome.{status_of}
use Rattle.report.specs.Provided.{ProvidedFiles}
use Rattle.report.specs.Outside.{Files}
use Rattle.report.specs.ReportData.{ReportData}
use Rattle.report.specs.ReportText.{is_proved}
use Rattle.driver.specs.Stages.{NameFiles}
use Rattle.report.specs.Status.{usage_line}
use Rattle.driver.specs.Run.{RunStopped, IsVerified, IsOutput, IsStopText, IsReportText, Ends}
use Rattle.report.specs.Writes.{IsJust, WroteAll, Writes}

-- a text of one kind is one of another
pub writes_as : (P Q : Status → List ℕ → Type 0) (old new : Option (List ℕ)) (old_faults new_faults : ℕ) (r : Result Status SinkFault) → ((status : Status) (text : List ℕ) → P status text → Q status text) → Writes P old new old_faults new_faults r → Writes Q old new old_faults new_faults r
writes_as P Q old new old_faults new_faults (Ok status) h w = record { text = w.text; output = h status w.text w.output; taken = w.taken }
writes_as P Q old new old_faults new_faults (Err fault) h w = record { status = w.status; text = w.text; output = h w.status w.text w.output; taken = w.taken; fault = w.fault }

module _ (words : List (List ℕ)) (holds : Option Files) (before after : ProvidedFiles) (old new : ℕ) where
  pub usage_output : ¬ NameFiles words → (status : Status) (text : List ℕ) → IsJust BadWords usage_line status text → IsOutput words holds before after old new status text
  usage_output h status text e = inl (record { refused = h; status_is = e.0; text_is = e.1 })

  pub stop_output : (stop : RunStop) → NameFiles words → RunStopped holds before after words old new stop → (status : Status) (text : List ℕ) → IsStopText words stop status text → IsOutput words holds before after old new status text
  stop_output stop named stopped status text (inl e) = inr (inl (record { named = named; stop = stop; stopped = stopped; status_is = e.0; text_is = e.1 }))
  stop_output stop named stopped status text (inr e) = inr (inr (inr e))

  pub report_output : (report : ReportData) → NameFiles words → IsVerified holds before after words report → (status : Status) (text : List ℕ) → IsReportText report status text → IsOutput words holds before after old new status text
  report_output report named verified status text (inl e) = inr (inr (inl (record { named = named; report = report; verified = verified; status_is = e.0; text_is = e.1 })))
  report_output report named verified status text (inr e) = inr (inr (inr e))

  -- no text belongs to a fault of the sink
  not_of_stop : (stop : RunStop) → Fault Sink ≡ status_of stop → ⊥
  not_of_stop (TooManyFiles count) e = cc
  not_of_stop (SourceFault file) e = cc
  not_of_stop (limit_stop file kind count) e = cc
  not_of_stop (refused_stop refusal) e = cc
  not_of_stop memory_stop e = cc

  not_of_report : (b : Bool) → Fault Sink ≡ (if b then AllProved else NotAllProved) → ⊥
  not_of_report true e = cc
  not_of_report false e = cc

  no_sink_output : (text : List ℕ) → IsOutput words holds before after old new (Fault Sink) text → ⊥
  no_sink_output text (inl u) = let e = u.status_is in cc
  no_sink_output text (inr (inl s)) = not_of_stop s.stop s.status_is
  no_sink_output text (inr (inr (inl r))) = not_of_report (list_all (λ f. is_proved f.verdict) r.report.functions) r.status_is
  no_sink_output text (inr (inr (inr w))) = let e = w.status_is in cc

  pub ends_whole : (taken taken' : Option (List ℕ)) (faults faults' : ℕ) (status : Status) → WroteAll (IsOutput words holds before after old new) taken taken' status → Ends (IsOutput words holds before after old new) taken taken' faults faults' status
  ends_whole taken taken' faults faults' (Fault Sink) w = absurd (no_sink_output w.text w.output)
  ends_whole taken taken' faults faults' (Fault Source) w = w
  ends_whole taken taken' faults faults' AllProved w = w
  ends_whole taken taken' faults faults' NotAllProved w = w
  ends_whole taken taken' faults faults' (Refused refusal) w = w
  ends_whole taken taken' faults faults' BadWords w = w
  ends_whole taken taken' faults faults' (Limit kind count) w = w
  ends_whole taken taken' faults faults' NoMemory w = w
