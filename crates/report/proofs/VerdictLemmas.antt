-- The bytes of a printed line determine what it states.
use Rattle.std.proofs.Common.{◌≡◌, ℕ, zero, suc, ℤ, pos, negsuc, ◌+◌, ◌-◌, ◌*◌, ◌/◌, ◌%◌, ◌<◌, ◌≤◌, ◌^◌, Bool, true, not, cond, ◌==◌, ◌&&◌, List, [], ◌∷◌, ◌++◌, map, Some, None, Option, refl, sym, ap, subst, ◌∙◌, arith}
use Rattle.std.specs.Prelude.{codes, nat_lt, slice_index_or, count_by, length}
use Rattle.std.specs.List.{AllByRecursion, flat_map}
use Rattle.std.specs.Fmt.{decimal}
use Rattle.std.proofs.lemmas.Bool.Decides.{nat_tests}
use Rattle.std.proofs.lemmas.Fmt.{decimal_by_steps}
use Rattle.std.proofs.lemmas.List.{map-append}
use Rattle.base.specs.declared.condition.ConditionKind.{ConditionKind}
use Rattle.base.specs.declared.condition.ConditionKind.TheVariants.{Ensures, AbortsIf, Aborts}
use Rattle.report.specs.ReportData.{ConditionRecordData, FunctionRecordData, ParameterValueData, ReportData}
use Rattle.report.specs.ReportText.{check_text, condition_line, condition_lines, condition_verdict_text, count_line, function_line, function_lines, function_verdict_text, hexadecimal, is_proved, kind_text, line_feed, lines_of_report, report_text, value_line, whole_text}
use Rattle.report.specs.Known.{HoldsNoFeed, IsCounted, IsPrintedCondition, IsPrintedFunction, IsPrintedReport, LineVerdict, of_condition, of_function, of_none, verdicts_of_condition, verdicts_of_function, verdicts_of_report}
use Rattle.report.specs.declared.report.ConditionVerdict.{ConditionVerdict}
use Rattle.report.specs.declared.report.ConditionVerdict.TheVariants.{Proved as condition_proved, Open, Wide, Rows, Budget, Size}
use Rattle.report.specs.declared.report.FunctionVerdict.{FunctionVerdict}
use Rattle.report.specs.declared.report.FunctionVerdict.TheVariants.{Proved, Unknown}
use Rattle.report.proofs.TextLines.{EndsOnce, ends_once, none_in, number_holds_none, same_lines}

-- ---- texts backwards

-- the reversed text, before another
abbrev onto_back : List ℕ → List ℕ → List ℕ
onto_back [] rest = rest
onto_back (b ∷ bs) rest = onto_back bs (b ∷ rest)

onto_both : (xs ys rest : List ℕ) → onto_back (xs ++ ys) rest ≡ onto_back ys (onto_back xs rest)
onto_both [] ys rest = refl
onto_both (x ∷ xs) ys rest = onto_both xs ys (x ∷ rest)

-- ---- a verdict is read from the end of its line

abbrev first : List ℕ → ℕ
first [] = 0
first (b ∷ bs) = b

abbrev behind : List ℕ → List ℕ
behind [] = []
behind (b ∷ bs) = bs

abbrev is_digit : ℕ → Bool
is_digit b = nat_lt 47 b && nat_lt b 58

-- the number whose last digits come first
abbrev value_back : List ℕ → ℕ
value_back [] = 0
value_back (b ∷ bs) = cond (is_digit b) ((b - 48) + 10 * value_back bs) 0

abbrev condition_back : List ℕ → ConditionVerdict
condition_back bs =
    cond (is_digit (first bs)) (Budget (value_back bs))
    (cond (first bs == 100) condition_proved (cond (first bs == 110) Open (cond (first bs == 115) Rows (cond (first (behind bs) == 100) Wide Size))))

abbrev function_back : List ℕ → FunctionVerdict
function_back bs = cond (first bs == 100) Proved Unknown

digit_is : (b : ℕ) → 48 ≤ b → b < 58 → is_digit b ≡ true
digit_is b h k = grind (arith, nat_tests)

record ReadsBack (n : ℕ) (bs : List ℕ) : Type 0 where
  digit : is_digit (first bs) ≡ true
  value : value_back bs ≡ n

abbrev Reads : ℕ → List ℕ → Type 0
Reads n ds = (more : List ℕ) → ReadsBack n (onto_back ds (32 ∷ more))

one_digit : (n : ℕ) → n < 10 → Reads n ((48 + n) ∷ [])
one_digit n h more = record {
  digit = digit_is (48 + n) (omega arith) (omega (arith, h));
  value = ap (λ t. cond t ((48 + n - 48) + 10 * value_back (32 ∷ more)) 0) (digit_is (48 + n) (omega arith) (omega (arith, h))) ∙ omega arith;
}

more_digits : (n : ℕ) (ds : List ℕ) → 10 ≤ n → Reads (n / 10) ds → Reads n (ds ++ (48 + n % 10) ∷ [])
more_digits n ds h reads more = subst (ReadsBack n) (sym (onto_both ds ((48 + n % 10) ∷ []) (32 ∷ more))) (record {
  digit = digit_is (48 + n % 10) (omega arith) (omega arith);
  value = ap (λ t. cond t ((48 + n % 10 - 48) + 10 * value_back (onto_back ds (32 ∷ more))) 0) (digit_is (48 + n % 10) (omega arith) (omega arith)) ∙ ap (λ v. (48 + n % 10 - 48) + 10 * v) (reads more).value ∙ omega arith;
})

decimal_reads : (n : ℕ) → n < 2 ^ 64 → Reads n (decimal n)
decimal_reads n h = decimal_by_steps Reads one_digit more_digits n h

budget_back : (n : ℕ) (bs : List ℕ) → ReadsBack n bs → condition_back bs ≡ Budget n
budget_back n bs r = ap (λ t. cond t (Budget (value_back bs)) (cond (first bs == 100) condition_proved (cond (first bs == 110) Open (cond (first bs == 115) Rows (cond (first (behind bs) == 100) Wide Size))))) r.digit ∙ ap Budget r.value

condition_reads : (v : ConditionVerdict) (more : List ℕ) → IsCounted v → condition_back (onto_back (condition_verdict_text v) (32 ∷ more)) ≡ v
condition_reads condition_proved more c = refl
condition_reads Open more c = refl
condition_reads Wide more c = refl
condition_reads Rows more c = refl
condition_reads Size more c = refl
condition_reads (Budget n) more c =
    ap condition_back (onto_both (codes "budget ") (decimal n) (32 ∷ more)) ∙ budget_back n _ (decimal_reads n c (behind (onto_back (codes "budget ") (32 ∷ more))))

function_reads : (v : FunctionVerdict) (more : List ℕ) → function_back (onto_back (function_verdict_text v) (32 ∷ more)) ≡ v
function_reads Proved more = refl
function_reads Unknown more = refl

-- the part before the line feed, reversed
abbrev back : List ℕ → List ℕ
back line = behind (onto_back line [])

back_is : (front text : List ℕ) → back (((front ++ codes ": ") ++ text) ++ line_feed) ≡ onto_back text (32 ∷ 58 ∷ onto_back front [])
back_is front text =
    ap behind (onto_both ((front ++ codes ": ") ++ text) line_feed []) ∙ onto_both (front ++ codes ": ") text [] ∙ ap (onto_back text) (onto_both front (codes ": ") [])

-- ---- the statement of a line

abbrev line_tells : List ℕ → LineVerdict
line_tells line =
    cond (first line == 48) (of_function (function_back (back line)))
    (cond ((first line == 32) && not (first (behind (behind line)) == 32)) (of_condition (condition_back (back line))) of_none)

function_tells : (f : FunctionRecordData) → line_tells (function_line f) ≡ of_function f.verdict
function_tells f =
    let front = ((((codes "0x" ++ hexadecimal f.address) ++ codes "::") ++ f.module_name) ++ codes "::") ++ f.name in
    ap (λ bs. of_function (function_back bs)) (back_is front (function_verdict_text f.verdict)) ∙ ap of_function (function_reads f.verdict (58 ∷ onto_back front []))

-- the third byte of the line of a condition is no blank
of_kind : (kind : ConditionKind) (file line check text : List ℕ) (x y : LineVerdict)
    → (let bytes = ((((((((codes "  " ++ kind_text kind) ++ codes " ") ++ file) ++ codes ":") ++ line) ++ check) ++ codes ": ") ++ text) ++ line_feed in cond ((first bytes == 32) && not (first (behind (behind bytes)) == 32)) x y ≡ x)
of_kind Ensures file line check text x y = refl
of_kind AbortsIf file line check text x y = refl
of_kind Aborts file line check text x y = refl

condition_tells : (files : List (List ℕ)) (c : ConditionRecordData) → IsCounted c.verdict → line_tells (condition_line files c) ≡ of_condition c.verdict
condition_tells files c counted =
    let front = (((((codes "  " ++ kind_text c.kind) ++ codes " ") ++ slice_index_or files c.file []) ++ codes ":") ++ decimal c.line) ++ check_text c.check_line in
    of_kind c.kind (slice_index_or files c.file []) (decimal c.line) (check_text c.check_line) (condition_verdict_text c.verdict) (of_condition (condition_back (back (condition_line files c)))) of_none
    ∙ ap (λ bs. of_condition (condition_back bs)) (back_is front (condition_verdict_text c.verdict)) ∙ ap of_condition (condition_reads c.verdict (58 ∷ onto_back front []) counted)

value_tells : (v : ParameterValueData) → line_tells (value_line v) ≡ of_none
value_tells v = refl

count_tells : (fs : List FunctionRecordData) → line_tells (count_line fs) ≡ of_none
count_tells fs = refl

-- ---- the statements of a report

values_tell : (vs : List ParameterValueData) → map line_tells (map value_line vs) ≡ map (λ v. of_none) vs
values_tell [] = refl
values_tell (v ∷ vs) = ap (λ xs. of_none ∷ xs) (values_tell vs)

conditions_tell : (files : List (List ℕ)) (cs : List ConditionRecordData) → AllByRecursion IsPrintedCondition cs → map line_tells (flat_map (condition_lines files) cs) ≡ flat_map verdicts_of_condition cs
conditions_tell files [] p = refl
conditions_tell files (c ∷ cs) p =
    map-append line_tells (condition_lines files c) (flat_map (condition_lines files) cs)
    ∙ ap (λ xs. (xs ∷ map line_tells (map value_line c.values)) ++ map line_tells (flat_map (condition_lines files) cs)) (condition_tells files c p.0.counted)
    ∙ ap (λ xs. (of_condition c.verdict ∷ xs) ++ map line_tells (flat_map (condition_lines files) cs)) (values_tell c.values)
    ∙ ap (λ xs. verdicts_of_condition c ++ xs) (conditions_tell files cs p.1)

functions_tell : (files : List (List ℕ)) (fs : List FunctionRecordData) → AllByRecursion IsPrintedFunction fs → map line_tells (flat_map (function_lines files) fs) ≡ flat_map verdicts_of_function fs
functions_tell files [] p = refl
functions_tell files (f ∷ fs) p =
    map-append line_tells (function_lines files f) (flat_map (function_lines files) fs)
    ∙ ap (λ x. (x ∷ map line_tells (flat_map (condition_lines files) f.conditions)) ++ map line_tells (flat_map (function_lines files) fs)) (function_tells f)
    ∙ ap (λ xs. (of_function f.verdict ∷ xs) ++ map line_tells (flat_map (function_lines files) fs)) (conditions_tell files f.conditions p.0.conditions)
    ∙ ap (λ xs. verdicts_of_function f ++ xs) (functions_tell files fs p.1)

report_tells : (r : ReportData) → IsPrintedReport r → map line_tells (lines_of_report r) ≡ verdicts_of_report r
report_tells r p =
    map-append line_tells (flat_map (function_lines r.files) r.functions) (count_line r.functions ∷ [])
    ∙ ap (λ xs. xs ++ line_tells (count_line r.functions) ∷ []) (functions_tell r.files r.functions p.functions)

-- ---- each line ends with its only line feed

file_holds_none : (files : List (List ℕ)) (i : ℕ) → AllByRecursion HoldsNoFeed files → HoldsNoFeed (slice_index_or files i [])
file_holds_none [] i p = refl
file_holds_none (f ∷ fs) zero p = p.0
file_holds_none (f ∷ fs) (suc i) p = file_holds_none fs i p.1

kind_holds_none : (kind : ConditionKind) → HoldsNoFeed (kind_text kind)
kind_holds_none Ensures = refl
kind_holds_none AbortsIf = refl
kind_holds_none Aborts = refl

verdict_holds_none : (v : ConditionVerdict) → HoldsNoFeed (condition_verdict_text v)
verdict_holds_none condition_proved = refl
verdict_holds_none Open = refl
verdict_holds_none Wide = refl
verdict_holds_none Rows = refl
verdict_holds_none Size = refl
verdict_holds_none (Budget n) = none_in (codes "budget ") (decimal n) refl (number_holds_none 10 n)

function_verdict_holds_none : (v : FunctionVerdict) → HoldsNoFeed (function_verdict_text v)
function_verdict_holds_none Proved = refl
function_verdict_holds_none Unknown = refl

check_holds_none : (o : Option ℕ) → HoldsNoFeed (check_text o)
check_holds_none None = refl
check_holds_none (Some n) = none_in (codes " at ") (decimal n) refl (number_holds_none 10 n)

whole_holds_none : (z : ℤ) → HoldsNoFeed (whole_text z)
whole_holds_none (pos n) = number_holds_none 10 n
whole_holds_none (negsuc n) = none_in (codes "-") (decimal (suc n)) refl (number_holds_none 10 (suc n))

function_ends : (f : FunctionRecordData) → IsPrintedFunction f → EndsOnce (function_line f)
function_ends f p =
    let address = codes "0x" ++ hexadecimal f.address in
    let in_module = (address ++ codes "::") ++ f.module_name in
    let named = (in_module ++ codes "::") ++ f.name in
    let at_address : HoldsNoFeed address = none_in (codes "0x") (hexadecimal f.address) refl (number_holds_none 16 f.address) in
    let at_module : HoldsNoFeed in_module = none_in (address ++ codes "::") f.module_name (none_in address (codes "::") at_address refl) p.module_name in
    let at_name : HoldsNoFeed named = none_in (in_module ++ codes "::") f.name (none_in in_module (codes "::") at_module refl) p.name in
    ends_once ((named ++ codes ": ") ++ function_verdict_text f.verdict) (none_in (named ++ codes ": ") (function_verdict_text f.verdict) (none_in named (codes ": ") at_name refl) (function_verdict_holds_none f.verdict))

condition_ends : (files : List (List ℕ)) (c : ConditionRecordData) → AllByRecursion HoldsNoFeed files → EndsOnce (condition_line files c)
condition_ends files c p =
    let kind = codes "  " ++ kind_text c.kind in
    let file = (kind ++ codes " ") ++ slice_index_or files c.file [] in
    let line = (file ++ codes ":") ++ decimal c.line in
    let check = line ++ check_text c.check_line in
    let of_kind : HoldsNoFeed kind = none_in (codes "  ") (kind_text c.kind) refl (kind_holds_none c.kind) in
    let of_file : HoldsNoFeed file = none_in (kind ++ codes " ") (slice_index_or files c.file []) (none_in kind (codes " ") of_kind refl) (file_holds_none files c.file p) in
    let of_line : HoldsNoFeed line = none_in (file ++ codes ":") (decimal c.line) (none_in file (codes ":") of_file refl) (number_holds_none 10 c.line) in
    let of_check : HoldsNoFeed check = none_in line (check_text c.check_line) of_line (check_holds_none c.check_line) in
    ends_once ((check ++ codes ": ") ++ condition_verdict_text c.verdict) (none_in (check ++ codes ": ") (condition_verdict_text c.verdict) (none_in check (codes ": ") of_check refl) (verdict_holds_none c.verdict))

value_ends : (v : ParameterValueData) → HoldsNoFeed v.name → EndsOnce (value_line v)
value_ends v p =
    let name = codes "    " ++ v.name in
    let of_name : HoldsNoFeed name = none_in (codes "    ") v.name refl p in
    ends_once ((name ++ codes " = ") ++ whole_text v.number) (none_in (name ++ codes " = ") (whole_text v.number) (none_in name (codes " = ") of_name refl) (whole_holds_none v.number))

count_ends : (fs : List FunctionRecordData) → EndsOnce (count_line fs)
count_ends fs =
    let proved = codes "proved " ++ decimal (count_by (λ f. is_proved f.verdict) fs) in
    let of_proved : HoldsNoFeed proved = none_in (codes "proved ") (decimal (count_by (λ f. is_proved f.verdict) fs)) refl (number_holds_none 10 (count_by (λ f. is_proved f.verdict) fs)) in
    ends_once ((proved ++ codes " of ") ++ decimal (length fs)) (none_in (proved ++ codes " of ") (decimal (length fs)) (none_in proved (codes " of ") of_proved refl) (number_holds_none 10 (length fs)))

all_in : (xs ys : List (List ℕ)) → AllByRecursion EndsOnce xs → AllByRecursion EndsOnce ys → AllByRecursion EndsOnce (xs ++ ys)
all_in [] ys p q = q
all_in (x ∷ xs) ys p q = (p.0, all_in xs ys p.1 q)

values_end : (vs : List ParameterValueData) → AllByRecursion (λ (v : ParameterValueData). HoldsNoFeed v.name) vs → AllByRecursion EndsOnce (map value_line vs)
values_end [] p = tt
values_end (v ∷ vs) p = (value_ends v p.0, values_end vs p.1)

conditions_end : (files : List (List ℕ)) (cs : List ConditionRecordData) → AllByRecursion HoldsNoFeed files → AllByRecursion IsPrintedCondition cs → AllByRecursion EndsOnce (flat_map (condition_lines files) cs)
conditions_end files [] h p = tt
conditions_end files (c ∷ cs) h p = all_in (condition_lines files c) (flat_map (condition_lines files) cs) (condition_ends files c h, values_end c.values p.0.values) (conditions_end files cs h p.1)

functions_end : (files : List (List ℕ)) (fs : List FunctionRecordData) → AllByRecursion HoldsNoFeed files → AllByRecursion IsPrintedFunction fs → AllByRecursion EndsOnce (flat_map (function_lines files) fs)
functions_end files [] h p = tt
functions_end files (f ∷ fs) h p = all_in (function_lines files f) (flat_map (function_lines files) fs) (function_ends f p.0, conditions_end files f.conditions h p.0.conditions) (functions_end files fs h p.1)

lines_end : (r : ReportData) → IsPrintedReport r → AllByRecursion EndsOnce (lines_of_report r)
lines_end r p = all_in (flat_map (function_lines r.files) r.functions) (count_line r.functions ∷ []) (functions_end r.files r.functions p.files p.functions) (count_ends r.functions, tt)

pub lines_are : (one other : ReportData) → IsPrintedReport one → IsPrintedReport other → report_text one ≡ report_text other → lines_of_report one ≡ lines_of_report other
lines_are one other p q e = same_lines (lines_of_report one) (lines_of_report other) (lines_end one p) (lines_end other q) e

pub verdicts_are : (one other : ReportData) → IsPrintedReport one → IsPrintedReport other → report_text one ≡ report_text other → verdicts_of_report one ≡ verdicts_of_report other
verdicts_are one other p q e = sym (report_tells one p) ∙ ap (map line_tells) (lines_are one other p q e) ∙ report_tells other q
