use Rattle.std.proofs.Common.{◌≡◌, ◌++◌, take}
use Rattle.std.specs.List.{flat_map}
use Rattle.report.specs.ReportText.{condition_lines}
use Rattle.report.proofs.report_text.push_function_lines.Given as goal

abbrev pub invariant-loop-condition : goal.invariant-loop-condition
invariant-loop-condition l = l.lines ≡ l.initial.lines ++ flat_map (condition_lines l.files) (take l.condition-index l.condition-items)
