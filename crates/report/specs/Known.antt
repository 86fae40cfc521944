-- What each printed line of a report states: the verdict on a function, the verdict on a condition, or neither.
use Rattle.std.specs.Prelude.{◌≡◌, ℕ, ◌^◌, ◌<◌, true, not, ◌==◌, List, [], ◌∷◌, ◌++◌, map}
use Rattle.std.specs.List.{AllByRecursion, flat_map, list_all}
use Rattle.report.specs.ReportData.{ConditionRecordData, FunctionRecordData, ParameterValueData, ReportData}
use Rattle.report.specs.declared.report.ConditionVerdict.{ConditionVerdict}
use Rattle.report.specs.declared.report.ConditionVerdict.TheVariants.{Budget}
use Rattle.report.specs.declared.report.FunctionVerdict.{FunctionVerdict}

pub data LineVerdict : Type 0 where
  of_function : FunctionVerdict → LineVerdict
  of_condition : ConditionVerdict → LineVerdict
  of_none : LineVerdict

-- ---- the statements of the lines, in order

abbrev pub verdicts_of_condition : ConditionRecordData → List LineVerdict
verdicts_of_condition c = of_condition c.verdict ∷ map (λ v. of_none) c.values

abbrev pub verdicts_of_function : FunctionRecordData → List LineVerdict
verdicts_of_function f = of_function f.verdict ∷ flat_map verdicts_of_condition f.conditions

abbrev pub verdicts_of_report : ReportData → List LineVerdict
verdicts_of_report report = flat_map verdicts_of_function report.functions ++ of_none ∷ []

-- ---- names on one line

abbrev pub HoldsNoFeed : List ℕ → Type 0
HoldsNoFeed name = list_all (λ b. not (b == 10)) name ≡ true

-- a count of steps fits in 64 bits
abbrev pub IsCounted : ConditionVerdict → Type 0
IsCounted (Budget steps) = steps < 2 ^ 64
IsCounted _ = Unit {0}

pub record IsPrintedCondition (c : ConditionRecordData) : Type 0 where
  pub counted : IsCounted c.verdict
  pub values : AllByRecursion (λ (v : ParameterValueData). HoldsNoFeed v.name) c.values

pub record IsPrintedFunction (f : FunctionRecordData) : Type 0 where
  pub module_name : HoldsNoFeed f.module_name
  pub name : HoldsNoFeed f.name
  pub conditions : AllByRecursion IsPrintedCondition f.conditions

-- no name of the report contains a line feed
pub record IsPrintedReport (report : ReportData) : Type 0 where
  pub files : AllByRecursion HoldsNoFeed report.files
  pub functions : AllByRecursion IsPrintedFunction report.functions
