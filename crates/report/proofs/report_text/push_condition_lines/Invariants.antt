use Rattle.std.proofs.Common.{◌≡◌, ◌++◌, map, take}
use Rattle.report.specs.ReportText.{value_line}
use Rattle.report.proofs.report_text.push_condition_lines.Given as goal

abbrev pub invariant-loop-value : goal.invariant-loop-value
invariant-loop-value l = l.lines ≡ l.initial.lines ++ map value_line (take l.value-index l.value-items)
