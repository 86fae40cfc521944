-- What the records of a report state about the functions of a program.
use Rattle.std.specs.Prelude.{◌≡◌, ℕ, ◌≤◌, Bool, true, false, List, [], length, map, slice_index_or, Option, All}
use Rattle.std.specs.List.{flat_map, list_all}
use Rattle.std.specs.Option.{option_map}
use Rattle.sum_tree.specs.SumFunctionData.{SumFunctionData}
use Rattle.ref_sem.specs.Semantics.{Keeps}
use Rattle.ref_sem.specs.Bodies.{HasU64Body}
use Rattle.vc_gen.specs.declared.condition.VerificationCondition.{VerificationCondition}
use Rattle.vc_gen.specs.Decided.{Decide}
use Rattle.vc_gen.specs.Keys.{keys_of}
use Rattle.report.specs.declared.report.ConditionVerdict.{ConditionVerdict}
use Rattle.report.specs.declared.report.ConditionVerdict.TheVariants.{Proved, Open, Wide, Rows, Budget, Size}
use Rattle.report.specs.Lines.{line_of}
use Rattle.base.specs.Pairs.{Paired}
use Rattle.sum_tree.specs.SpecifiedData.{SpecifiedFunctionData}
use Rattle.sum_tree.specs.SumModuleData.{SumModuleData}
use Rattle.driver.specs.Verdicts.{IsShown}
use Rattle.report.specs.ReportData.{ConditionRecordData, FunctionRecordData, ReportData}
use Rattle.report.specs.ReportText.{is_proved}

abbrev pub is_condition_proved : ConditionVerdict → Bool
is_condition_proved Proved = true
is_condition_proved Open = false
is_condition_proved Wide = false
is_condition_proved Rows = false
is_condition_proved (Budget steps) = false
is_condition_proved Size = false

-- the line of a check that is apart from its clause
abbrev pub check_line_of : List ℕ → Option ℕ → Option ℕ
check_line_of bytes check = option_map (line_of bytes) check

-- the record is that of this condition of a function with these parameters, in the file with this number and these
-- bytes, and its verdict is justified
pub record IsConditionRecord (bytes : List ℕ) (file : ℕ) (parameters : List (List ℕ)) (condition : VerificationCondition) (found : ConditionRecordData) : Type 0 where
  pub kind : found.kind ≡ condition.key.kind
  pub file_is : found.file ≡ file
  pub line : found.line ≡ line_of bytes condition.key.start
  pub check_line : found.check_line ≡ check_line_of bytes condition.key.check
  pub shown : IsShown condition.formula parameters found.answer found.verdict found.values

abbrev pub are_proved : List ConditionRecordData → Bool
are_proved conditions = list_all (λ c. is_condition_proved c.verdict) conditions

-- The record is that of this function of a module: for some formulas that have the keys of its conditions, and that are
-- all valid exactly if the function keeps its contract, there is a record of each in order; the function's record is
-- `proved` exactly if all of these are. A function whose record is `proved` keeps its contract.
pub record IsFunctionRecord (bytes : List ℕ) (m : SumModuleData) (f : SpecifiedFunctionData) (found : FunctionRecordData) : Type 0 where
  pub address_is : found.address ≡ m.address
  pub module_is : found.module_name ≡ m.name
  pub name_is : found.name ≡ f.function.name
  pub conditions : List VerificationCondition
  pub keys : map (λ (c : VerificationCondition). c.key) conditions ≡ keys_of f.function f.clauses
  pub decide : Decide f.function f.clauses conditions
  pub records : Paired (IsConditionRecord bytes m.file f.function.parameters) conditions found.conditions
  pub verdict : is_proved found.verdict ≡ are_proved found.conditions
  pub keeps : is_proved found.verdict ≡ true → Keeps f.function f.clauses

abbrev pub functions_of_module : SumModuleData → List (SumModuleData × SpecifiedFunctionData)
functions_of_module m = map (λ f. (m, f)) m.functions

-- the functions of modules in order, each with its module
abbrev pub functions_of : List SumModuleData → List (SumModuleData × SpecifiedFunctionData)
functions_of program = flat_map functions_of_module program

-- the record is that of this function, in a program in these files
abbrev pub IsRecordIn : List (List ℕ) → SumModuleData × SpecifiedFunctionData → FunctionRecordData → Type 0
IsRecordIn files f found = IsFunctionRecord (slice_index_or files f.0.file []) f.0 f.1 found

-- the report is that of a program in the files with these names and these bytes: it has a record of each function
pub record IsReportOf (names files : List (List ℕ)) (program : List SumModuleData) (report : ReportData) : Type 0 where
  pub files_are : report.files ≡ names
  pub functions : Paired (IsRecordIn files) (functions_of program) report.functions

-- A function may be verified: it has at most 8 parameters, and its body is over u64 values and parameters alone.
pub record IsVerifiable (f : SumFunctionData) : Type 0 where
  pub few : length f.parameters ≤ 8
  pub body : HasU64Body f

-- each function of a program may be verified
abbrev pub AreVerifiable : List SumModuleData → Type 0
AreVerifiable program = All (λ m. All (λ f. IsVerifiable f.function) m.functions) program
