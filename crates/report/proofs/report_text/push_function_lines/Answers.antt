use Rattle.report.specs.ReportText.{condition_lines}
use Rattle.report.proofs.ReportLemmas.{more_lines}
use Rattle.report.proofs.report_text.push_function_lines.Goals as goal

pub loop-condition-preserved : goal.loop-condition-preserved
loop-condition-preserved c =
    more_lines (condition_lines c.args.files.now) _ c.loop-condition.condition-index c.condition-item.result _ _ _ c.loop-condition-test.true c.condition-item.is c.loop-condition.invariant c.in_ok-push_condition_lines.ensures
