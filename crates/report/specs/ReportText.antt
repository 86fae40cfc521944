-- The text of a report as a function of its records. Each line ends with a line feed.
use Rattle.std.specs.Prelude.{ℕ, suc, ℤ, pos, negsuc, Bool, true, false, List, [], ◌∷◌, ◌++◌, length, count_by, Option, Some, None, codes, map, slice_index_or}
use Rattle.std.specs.List.{flat_map}
use Rattle.std.specs.Fmt.{decimal, digits}
use Rattle.report.specs.ReportData.{ParameterValueData, ConditionRecordData, FunctionRecordData, ReportData}
use Rattle.report.specs.Writing.{joined}
use Rattle.report.specs.declared.report.FunctionVerdict.{FunctionVerdict}
use Rattle.report.specs.declared.report.FunctionVerdict.TheVariants.{Proved, Unknown}
use Rattle.report.specs.declared.report.ConditionVerdict.{ConditionVerdict}
use Rattle.report.specs.declared.report.ConditionVerdict.TheVariants.{Proved as condition_proved, Open, Wide, Rows, Budget, Size}
use Rattle.base.specs.declared.condition.ConditionKind.{ConditionKind}
use Rattle.base.specs.declared.condition.ConditionKind.TheVariants.{Ensures, AbortsIf, Aborts}

abbrev pub line_feed : List ℕ
line_feed = 10 ∷ []

-- a number in hexadecimal, in lower case without leading zeros
abbrev pub hexadecimal : ℕ → List ℕ
hexadecimal n = digits 16 false n

abbrev pub kind_text : ConditionKind → List ℕ
kind_text Ensures = codes "ensures"
kind_text AbortsIf = codes "aborts_if"
kind_text Aborts = codes "aborts"

abbrev pub condition_verdict_text : ConditionVerdict → List ℕ
condition_verdict_text condition_proved = codes "proved"
condition_verdict_text Open = codes "open"
condition_verdict_text Wide = codes "wide"
condition_verdict_text Rows = codes "rows"
condition_verdict_text (Budget steps) = codes "budget " ++ decimal steps
condition_verdict_text Size = codes "size certificate"

abbrev pub function_verdict_text : FunctionVerdict → List ℕ
function_verdict_text Proved = codes "proved"
function_verdict_text Unknown = codes "unknown"

abbrev pub is_proved : FunctionVerdict → Bool
is_proved Proved = true
is_proved Unknown = false

-- the line number of a check that is apart from its clause
abbrev pub check_text : Option ℕ → List ℕ
check_text None = []
check_text (Some line) = codes " at " ++ decimal line

-- `0x1::m::f: proved`
abbrev pub function_line : FunctionRecordData → List ℕ
function_line f = codes "0x" ++ hexadecimal f.address ++ codes "::" ++ f.module_name ++ codes "::" ++ f.name
    ++ codes ": " ++ function_verdict_text f.verdict ++ line_feed

-- `  ensures a.move:5: proved`
abbrev pub condition_line : List (List ℕ) → ConditionRecordData → List ℕ
condition_line files c = codes "  " ++ kind_text c.kind ++ codes " " ++ slice_index_or files c.file [] ++ codes ":"
    ++ decimal c.line ++ check_text c.check_line ++ codes ": " ++ condition_verdict_text c.verdict ++ line_feed

-- a whole number in decimal
abbrev pub whole_text : ℤ → List ℕ
whole_text (pos n) = decimal n
whole_text (negsuc n) = codes "-" ++ decimal (suc n)

-- `    x = -1`
abbrev pub value_line : ParameterValueData → List ℕ
value_line v = codes "    " ++ v.name ++ codes " = " ++ whole_text v.number ++ line_feed

-- the line of a condition, and those of the values
abbrev pub condition_lines : List (List ℕ) → ConditionRecordData → List (List ℕ)
condition_lines files c = condition_line files c ∷ map value_line c.values

-- a function's line, and then those of its conditions
abbrev pub function_lines : List (List ℕ) → FunctionRecordData → List (List ℕ)
function_lines files f = function_line f ∷ flat_map (condition_lines files) f.conditions

-- `proved 1 of 1`
abbrev pub count_line : List FunctionRecordData → List ℕ
count_line functions = codes "proved " ++ decimal (count_by (λ f. is_proved f.verdict) functions) ++ codes " of "
    ++ decimal (length functions) ++ line_feed

abbrev pub lines_of_report : ReportData → List (List ℕ)
lines_of_report report = flat_map (function_lines report.files) report.functions ++ count_line report.functions ∷ []

-- the report's bytes
abbrev pub report_text : ReportData → List ℕ
report_text report = joined (lines_of_report report)
