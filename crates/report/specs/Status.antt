-- The exit statuses, and the line printed for a run without a report.
use Rattle.std.specs.Prelude.{ℕ, List, [], ◌++◌, Option, Some, None, codes}
use Rattle.std.specs.Fmt.{decimal}
use Rattle.base.specs.Rules.{rule_name, rule_number}
use Rattle.report.specs.ReportText.{line_feed}
use Rattle.report.specs.declared.status.Refusal.{Refusal}
use Rattle.report.specs.declared.status.Status.{Status}
use Rattle.report.specs.declared.status.Status.TheVariants.{AllProved, NotAllProved, Refused, Fault, BadWords, Limit, NoMemory}
use Rattle.report.specs.declared.status.LimitKind.{LimitKind}
use Rattle.report.specs.declared.status.LimitKind.TheVariants.{Files, Bytes, Tokens, Nesting, Locals}

-- the exit status of the program
abbrev pub code_of : Status → ℕ
code_of AllProved = 0
code_of NotAllProved = 1
code_of (Refused refusal) = 2
code_of (Fault device) = 3
code_of BadWords = 4
code_of (Limit kind count) = 5
code_of NoMemory = 6

abbrev pub limit_text : LimitKind → List ℕ
limit_text Files = codes "files"
limit_text Bytes = codes "bytes"
limit_text Tokens = codes "tokens"
limit_text Nesting = codes "nesting"
limit_text Locals = codes "locals"

abbrev pub marker_prefix : Option (List ℕ) → List ℕ
marker_prefix None = []
marker_prefix (Some marker) = marker ++ codes " "

-- `refused 18 NotBuilt a.move:1`, `refused 3 LeftOut 1u256 a.move:1`
abbrev pub refusal_line : List ℕ → Refusal → List ℕ
refusal_line file r = codes "refused " ++ decimal (rule_number r.rule) ++ codes " " ++ rule_name r.rule ++ codes " " ++ marker_prefix r.marker
    ++ file ++ codes ":" ++ decimal r.line ++ line_feed

-- `limit files 65`
abbrev pub files_limit_line : ℕ → List ℕ
files_limit_line count = codes "limit files " ++ decimal count ++ line_feed

-- `fault source a.move`
abbrev pub source_fault_line : List ℕ → List ℕ
source_fault_line file = codes "fault source " ++ file ++ line_feed

-- `limit bytes a.move`
abbrev pub limit_line : List ℕ → LimitKind → List ℕ
limit_line file kind = codes "limit " ++ limit_text kind ++ codes " " ++ file ++ line_feed

abbrev pub usage_line : List ℕ
usage_line = codes "usage: movep [FILE]..." ++ line_feed

abbrev pub no_memory_line : List ℕ
no_memory_line = codes "no memory" ++ line_feed
