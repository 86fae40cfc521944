use Rattle.report.proofs.VerdictLemmas.{lines_are, verdicts_are}
use Rattle.report.proofs.report_text.one_reading.Goals as goal

pub returns-clause-lines : goal.returns-clause-lines
returns-clause-lines c = lines_are

pub returns-clause-verdicts : goal.returns-clause-verdicts
returns-clause-verdicts c = verdicts_are
