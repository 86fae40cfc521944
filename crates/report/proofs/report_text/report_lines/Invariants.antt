use Rattle.std.proofs.Common.{◌≡◌, take}
use Rattle.std.specs.List.{flat_map}
use Rattle.report.specs.ReportText.{function_lines}
use Rattle.report.proofs.report_text.report_lines.Given as goal

abbrev pub invariant-loop-function : goal.invariant-loop-function
invariant-loop-function l = l.lines ≡ flat_map (function_lines l.report-inside.files.items) (take l.function-index l.function-items)
