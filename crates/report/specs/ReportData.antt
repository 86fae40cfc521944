-- Verdicts and reports as contracts see them.
use Rattle.std.specs.Prelude.{ℕ, ℤ, List, Option}
use Rattle.base.specs.declared.condition.ConditionKind.{ConditionKind}
use Rattle.certificate_text.specs.declared.prover.answer.Answer.{Answer}
use Rattle.report.specs.declared.report.ConditionVerdict.{ConditionVerdict}
use Rattle.report.specs.declared.report.FunctionVerdict.{FunctionVerdict}

-- the value of a parameter on an open branch
pub record ParameterValueData : Type 0 where
  pub name : List ℕ
  pub number : ℤ

-- a condition by its kind and position, its verdict, the prover's answer for its formula, and the values printed after
-- it
pub record ConditionRecordData : Type 0 where
  pub kind : ConditionKind
  pub file : ℕ
  pub line : ℕ
  pub check_line : Option ℕ
  pub verdict : ConditionVerdict
  pub answer : Answer
  pub values : List ParameterValueData

-- a function's verdict, and those of its conditions in order
pub record FunctionRecordData : Type 0 where
  pub address : ℕ
  pub module_name : List ℕ
  pub name : List ℕ
  pub verdict : FunctionVerdict
  pub conditions : List ConditionRecordData

-- the names of the files, to which the conditions' file numbers refer, and the functions in file order
pub record ReportData : Type 0 where
  pub files : List (List ℕ)
  pub functions : List FunctionRecordData
