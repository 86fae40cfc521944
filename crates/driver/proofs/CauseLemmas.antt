-- The causes of a run's statuses exclude each other, so that the end of a run determines each cause in both directions.
use Rattle.std.proofs.Common.{◌≡◌, ℕ, ◌<◌, ◌≤◌, ◌↔◌, ◌⊎◌, Bool, true, false, if◌then◌else◌, List, [], ◌∷◌, ◌++◌, length, Option, Some, None, inl, inr, refl, sym, ap, subst, ◌∙◌, arith}
use Rattle.std.specs.Prelude.{IfSome, IsSomeAnd}
use Rattle.std.specs.List.{list_all, AllByRecursion}
use Rattle.std.specs.FinMap as map
use Rattle.base.specs.Rules.{tells_place}
use Rattle.base.specs.declared.rule.Rule.{Rule}
use Rattle.base.specs.declared.rule.Rule.TheVariants.{BadToken}
use Rattle.report.specs.Provided.{ProvidedFiles, AreProvided}
use Rattle.report.specs.Outside.{Files, HasFaulted, IsLongFile}
use Rattle.front_end.specs.Numbered.{IsFirst}
use Rattle.front_end.specs.FileFault.{IsSameStop, without_offset}
use Rattle.front_end.specs.Program.{IsProgramOf, ProgramStopped}
use Rattle.front_end.specs.declared.fault.FileFault.{FileFault}
use Rattle.front_end.specs.declared.fault.FileFault.TheVariants.{Breaks, Passes}
use Rattle.front_end.specs.declared.fault.FileLimit.{FileLimit}
use Rattle.front_end.specs.declared.fault.FileLimit.TheVariants.{Tokens as of_tokens, Nesting as of_nesting, Locals as of_locals}
use Rattle.report.specs.ReportData.{ReportData}
use Rattle.report.specs.ReportText.{is_proved}
use Rattle.report.specs.declared.status.Device.TheVariants.{Source, Sink}
use Rattle.report.specs.declared.status.LimitKind.{LimitKind}
use Rattle.report.specs.declared.status.LimitKind.TheVariants.{Files as files_kind, Bytes, Tokens, Nesting, Locals}
use Rattle.report.specs.declared.status.Status.{Status}
use Rattle.report.specs.declared.status.Status.TheVariants.{AllProved, NotAllProved, Refused, Fault, BadWords, Limit, NoMemory}
use Rattle.sum_tree.specs.SumModuleData.{SumModuleData}
use Rattle.driver.proofs.ProvidedLemmas.{provided_in_part, one_provided}
use Rattle.driver.specs.Causes.{AreKnown, BreaksRule, BreaksRuleOn, Causes, FileCauses, ProvidedCauses, IsRefused, IsReported, PassesLimit, SomeIsLong, TextCauses, UnlessFree, refused}
use Rattle.driver.specs.Outcome.{status_of}
use Rattle.driver.specs.Run.{Ends, IsOutput, IsVerified, RunStopped, report_status}
use Rattle.driver.specs.Stages.{FetchStopped, ProvidedBefore, ProvidedTo, HaveBytes, IsFetched, IsLong, IsProgramStop, NameFiles, ReadStopped, limit_kind, line_in, stop_of}
use Rattle.driver.specs.declared.stages.RunStop.{RunStop}
use Rattle.driver.specs.declared.stages.RunStop.TheVariants.{TooManyFiles, SourceFault, Limit as limit_stop, Refused as refused_stop, NoMemory as memory_stop}

-- ---- statuses

-- a number for each kind of status, which distinguishes two statuses
abbrev kind_of_limit : LimitKind → ℕ
kind_of_limit files_kind = 12
kind_of_limit Bytes = 3
kind_of_limit Tokens = 4
kind_of_limit Nesting = 4
kind_of_limit Locals = 4

abbrev kind_of : Status → ℕ
kind_of (Refused refusal) = 1
kind_of (Limit kind count) = kind_of_limit kind
kind_of AllProved = 6
kind_of NotAllProved = 6
kind_of (Fault device) = 7
kind_of BadWords = 8
kind_of NoMemory = 9

abbrev rule_of_status : Status → Rule
rule_of_status (Refused refusal) = refusal.rule
rule_of_status _ = BadToken

abbrev line_of_status : Status → ℕ
line_of_status (Refused refusal) = refusal.line
line_of_status _ = 0

abbrev file_of_status : Status → ℕ
file_of_status (Refused refusal) = refusal.file
file_of_status _ = 0

abbrev marker_of_status : Status → Option (List ℕ)
marker_of_status (Refused refusal) = refusal.marker
marker_of_status _ = None

abbrev count_of_status : Status → ℕ
count_of_status (Limit kind count) = count
count_of_status _ = 0

-- the limit of a file for a limit of a run, if it is one
abbrev limit_of_kind : LimitKind → FileLimit
limit_of_kind files_kind = of_tokens
limit_of_kind Bytes = of_tokens
limit_of_kind Tokens = of_tokens
limit_of_kind Nesting = of_nesting
limit_of_kind Locals = of_locals

abbrev limit_of_status : Status → FileLimit
limit_of_status (Limit kind count) = limit_of_kind kind
limit_of_status _ = of_tokens

limit_is : (limit : FileLimit) → limit_of_kind (limit_kind limit) ≡ limit
limit_is of_tokens = refl
limit_is of_nesting = refl
limit_is of_locals = refl

four : (limit : FileLimit) → kind_of_limit (limit_kind limit) ≡ 4
four of_tokens = refl
four of_nesting = refl
four of_locals = refl

six : (s : Status) → IsReported s → kind_of s ≡ 6
six s (inl e) = ap kind_of e
six s (inr e) = ap kind_of e

sink_is_no_source : Fault Sink ≡ Fault Source → ⊥
sink_is_no_source e = cc

some_is : {A : Type 0} {x y : A} → Some x ≡ Some y → x ≡ y
some_is e = cc

unless_free : (s : Status) (P : Type 0) → P → UnlessFree s P
unless_free NoMemory P p = tt
unless_free (Fault Sink) P p = tt
unless_free (Fault Source) P p = p
unless_free AllProved P p = p
unless_free NotAllProved P p = p
unless_free (Refused refusal) P p = p
unless_free BadWords P p = p
unless_free (Limit kind count) P p = p

is_report_status : (b : Bool) → IsReported (if b then AllProved else NotAllProved)
is_report_status true = inl refl
is_report_status false = inr refl

report_is_reported : (report : ReportData) → IsReported (report_status report)
report_is_reported report = is_report_status (list_all (λ f. is_proved f.verdict) report.functions)

-- ---- faults of files

-- the status of a run that stops at this fault of this file
abbrev stopped_status : List (List ℕ) → ℕ → FileFault → Status
stopped_status files file fault = status_of (stop_of files file fault)

-- it is a refusal or a limit of a file
status_kind : (files : List (List ℕ)) (file : ℕ) (fault : FileFault) → (kind_of (stopped_status files file fault) ≡ 1) ⊎ (kind_of (stopped_status files file fault) ≡ 4)
status_kind files file (Breaks rule offset marker) = inl refl
status_kind files file (Passes limit count) = inr (four limit)

-- it is of no other kind
record IsOther (kind : ℕ) : Type 0 where
  no_limit_of_bytes : kind ≡ 3 → ⊥
  no_report : kind ≡ 6 → ⊥
  no_fault : kind ≡ 7 → ⊥
  no_words : kind ≡ 8 → ⊥
  no_limit_of_files : kind ≡ 12 → ⊥

one_or_four : (kind : ℕ) → (kind ≡ 1) ⊎ (kind ≡ 4) → IsOther kind
one_or_four kind (inl k) = record { no_limit_of_bytes = λ e. omega (arith, k, e); no_report = λ e. omega (arith, k, e); no_fault = λ e. omega (arith, k, e); no_words = λ e. omega (arith, k, e); no_limit_of_files = λ e. omega (arith, k, e) }
one_or_four kind (inr k) = record { no_limit_of_bytes = λ e. omega (arith, k, e); no_report = λ e. omega (arith, k, e); no_fault = λ e. omega (arith, k, e); no_words = λ e. omega (arith, k, e); no_limit_of_files = λ e. omega (arith, k, e) }

other_kinds : (files : List (List ℕ)) (file : ℕ) (fault : FileFault) → IsOther (kind_of (stopped_status files file fault))
other_kinds files file fault = one_or_four (kind_of (stopped_status files file fault)) (status_kind files file fault)

-- a fault with its position
abbrev index_of : FileFault → ℕ
index_of (Breaks rule offset marker) = offset
index_of (Passes limit count) = 0

-- a fault without its position
abbrev rule_of : FileFault → Rule
rule_of (Breaks rule offset marker) = rule
rule_of (Passes limit count) = BadToken

abbrev marker_of : FileFault → Option (List ℕ)
marker_of (Breaks rule offset marker) = marker
marker_of (Passes limit count) = None

abbrev breaks_one : FileFault → Bool
breaks_one (Breaks rule offset marker) = true
breaks_one (Passes limit count) = false

-- the same rule broken with the same marker, at some position
same_rule : (fault : FileFault) (rule : Rule) (offset : ℕ) (marker : Option (List ℕ)) → without_offset fault ≡ without_offset (Breaks rule offset marker) → fault ≡ Breaks rule (index_of fault) marker
same_rule (Breaks other at mark) rule offset marker e = ap (λ r. Breaks r at mark) (ap rule_of e) ∙ ap (Breaks rule at) (ap marker_of e)
same_rule (Passes limit count) rule offset marker e = absurd (apart (ap breaks_one e))
  where
    apart : false ≡ true → ⊥
    apart k = absurd (cc)

-- a rule with a position is broken at the same position
same_offset : (fault : FileFault) (rule : Rule) (offset : ℕ) (marker : Option (List ℕ)) → tells_place rule ≡ true → without_offset fault ≡ without_offset (Breaks rule offset marker) → fault ≡ Breaks rule offset marker
same_offset fault rule offset marker known e =
    let f = same_rule fault rule offset marker e in
    f ∙ ap (λ at. Breaks rule at marker) (ap (λ t. if t then index_of fault else 0) (sym known) ∙ ap index_of (sym (ap without_offset f) ∙ e) ∙ ap (λ t. if t then offset else 0) known)

-- the same limit is exceeded
same_limit : (fault : FileFault) (limit : FileLimit) (count : ℕ) → without_offset fault ≡ Passes limit count → fault ≡ Passes limit count
same_limit (Breaks rule offset marker) limit count e = absurd (apart (ap breaks_one e))
  where
    apart : true ≡ false → ⊥
    apart k = absurd (cc)
same_limit (Passes other n) limit count e = e

-- a refusal determines its fault
record TellsRule (files : List (List ℕ)) (file : ℕ) (fault : FileFault) (rule : Rule) (f line : ℕ) (marker : Option (List ℕ)) : Type 0 where
  offset : ℕ
  file_is : file ≡ f
  fault_is : fault ≡ Breaks rule offset marker
  line_is : line ≡ line_in files f offset

tells_rule : (files : List (List ℕ)) (file : ℕ) (fault : FileFault) (rule : Rule) (f line : ℕ) (marker : Option (List ℕ)) → stopped_status files file fault ≡ refused rule f line marker → TellsRule files file fault rule f line marker
tells_rule files file (Breaks other offset mark) rule f line marker e = record {
  offset = offset;
  file_is = ap file_of_status e;
  fault_is = ap (λ r. Breaks r offset mark) (ap rule_of_status e) ∙ ap (Breaks rule offset) (ap marker_of_status e);
  line_is = sym (ap line_of_status e) ∙ ap (λ k. line_in files k offset) (ap file_of_status e);
}
tells_rule files file (Passes limit count) rule f line marker e = absurd (omega (arith, sym (four limit) ∙ ap kind_of e))

tells_limit : (files : List (List ℕ)) (file : ℕ) (fault : FileFault) (limit : FileLimit) (count : ℕ) → stopped_status files file fault ≡ Limit (limit_kind limit) count → fault ≡ Passes limit count
tells_limit files file (Breaks rule offset marker) limit count e = absurd (omega (arith, ap kind_of e ∙ four limit))
tells_limit files file (Passes other n) limit count e =
    ap (λ l. Passes l n) (sym (limit_is other) ∙ ap limit_of_status e ∙ limit_is limit) ∙ ap (Passes limit) (ap count_of_status e)

module _ (either : (files : List (List ℕ)) (program : List SumModuleData) (file : ℕ) (fault : FileFault) → IsProgramOf files program → ProgramStopped files file fault → ⊥)
    (one_stop : (files : List (List ℕ)) (file other_file : ℕ) (fault other : FileFault) → ProgramStopped files file fault → ProgramStopped files other_file other → IsSameStop file other_file fault other) where
  -- ---- files that stop the reading

  module _ (files : List (List ℕ)) (file : ℕ) (fault : FileFault) (stopped : ProgramStopped files file fault) where
    abbrev ends : Status
    ends = stopped_status files file fault

    at : (f : ℕ) (other : FileFault) → file ≡ f → fault ≡ other → ProgramStopped files f other
    at f other e h = subst (λ k. ProgramStopped files k other) e (subst (ProgramStopped files file) h stopped)

    rule_causes : (rule : Rule) (f : ℕ) (marker : Option (List ℕ)) → IsRefused rule f marker ends ↔ BreaksRule files rule f marker
    rule_causes rule f marker = (there, back)
      where
        there : IsRefused rule f marker ends → BreaksRule files rule f marker
        there e = let t = tells_rule files file fault rule f e.0 marker e.1 in (t.offset, at f (Breaks rule t.offset marker) t.file_is t.fault_is)

        back : BreaksRule files rule f marker → IsRefused rule f marker ends
        back b =
            let same = one_stop files file f fault (Breaks rule b.0 marker) stopped b.1 in (
              line_in files f (index_of fault),
              ap (λ k. stopped_status files k fault) same.file_is ∙ ap (stopped_status files f) (same_rule fault rule b.0 marker same.fault_is),
            )

    line_causes : (rule : Rule) → tells_place rule ≡ true → (f line : ℕ) (marker : Option (List ℕ)) → (ends ≡ refused rule f line marker) ↔ BreaksRuleOn files rule f line marker
    line_causes rule known f line marker = (there, back)
      where
        there : ends ≡ refused rule f line marker → BreaksRuleOn files rule f line marker
        there e =
            let t = tells_rule files file fault rule f line marker e in
            record { offset = t.offset; stopped = at f (Breaks rule t.offset marker) t.file_is t.fault_is; line_is = t.line_is }

        back : BreaksRuleOn files rule f line marker → ends ≡ refused rule f line marker
        back b =
            let same = one_stop files file f fault (Breaks rule b.offset marker) stopped b.stopped in
            ap (λ k. stopped_status files k fault) same.file_is ∙ ap (stopped_status files f) (same_offset fault rule b.offset marker known same.fault_is) ∙ ap (λ k. refused rule f k marker) (sym b.line_is)

    limit_causes : (limit : FileLimit) (count : ℕ) → (ends ≡ Limit (limit_kind limit) count) ↔ PassesLimit files limit count
    limit_causes limit count = (there, back)
      where
        there : ends ≡ Limit (limit_kind limit) count → PassesLimit files limit count
        there e = (file, at file (Passes limit count) refl (tells_limit files file fault limit count e))

        back : PassesLimit files limit count → ends ≡ Limit (limit_kind limit) count
        back b = ap (stopped_status files file) (same_limit fault limit count (one_stop files file b.0 fault (Passes limit count) stopped b.1).fault_is)

    stop_causes : TextCauses files ends
    stop_causes = record {
      rule = rule_causes;
      line = line_causes;
      limit = limit_causes;
      reported = (λ e. absurd ((other_kinds files file fault).no_report (six ends e)), λ p. absurd (either files p.0 file fault p.1 stopped));
    }

  -- ---- files with a program

  program_causes : (files : List (List ℕ)) (program : List SumModuleData) (s : Status) → IsReported s → IsProgramOf files program → TextCauses files s
  program_causes files program s is p =
      let is_six = six s is in
      record {
        rule = λ rule f m. (λ e. absurd (omega (arith, sym is_six ∙ ap kind_of e.1)), λ b. absurd (either files program f (Breaks rule b.0 m) p b.1));
        line = λ rule known f l m. (λ e. absurd (omega (arith, sym is_six ∙ ap kind_of e)), λ b. absurd (either files program f (Breaks rule b.offset m) p b.stopped));
        limit = λ limit c. (λ e. absurd (omega (arith, sym is_six ∙ ap kind_of e ∙ four limit)), λ b. absurd (either files program b.0 (Passes limit c) p b.1));
        reported = (λ _. (program, p), λ _. is);
      }

  -- ---- the files that the words name

  module _ (known : Files) where
    -- names have one list of bytes at most
    one_known : (names files other : List (List ℕ)) → AreKnown known names files → HaveBytes (Some known) names other → files ≡ other
    one_known [] [] [] p q = refl
    one_known [] [] (y ∷ ys) p q = absurd q
    one_known [] (x ∷ xs) ys p q = absurd p
    one_known (n ∷ ns) [] ys p q = absurd p
    one_known (n ∷ ns) (x ∷ xs) [] p q = absurd q
    one_known (n ∷ ns) (x ∷ xs) (y ∷ ys) p q = ap (λ z. z ∷ xs) (some_is (sym p.0 ∙ q.0.known)) ∙ ap (λ zs. y ∷ zs) (one_known ns xs ys p.1 q.1)

    long_or_short : (o : Option (List ℕ)) (bytes : List ℕ) → o ≡ Some bytes → length bytes ≤ 1048576 → IsSomeAnd o (λ b. 1048576 < length b) → ⊥
    long_or_short None bytes e short long = long
    long_or_short (Some b) bytes e short long = omega (arith, ap length (some_is e), short, long)

    none_is_long : (names files : List (List ℕ)) → HaveBytes (Some known) names files → AllByRecursion (λ name. ¬ IsLongFile known name 1048576) names
    none_is_long [] [] h = tt
    none_is_long [] (x ∷ xs) h = absurd h
    none_is_long (n ∷ ns) [] h = absurd h
    none_is_long (n ∷ ns) (x ∷ xs) h = (long_or_short (map.get known n) x h.0.known h.0.short, none_is_long ns xs h.1)

    -- a status that is no limit of bytes has its causes in the files
    text_causes : (names files : List (List ℕ)) (s : Status) → HaveBytes (Some known) names files → (kind_of s ≡ 3 → ⊥) → TextCauses files s → FileCauses known names s
    text_causes names files s h other t = record {
      too_long = λ n. (λ e. absurd (other (ap kind_of e)), λ l. absurd (l.1 (none_is_long names files h)));
      texts = λ more are short. subst (λ fs. TextCauses fs s) (sym (one_known names more files are h)) t;
    }

    long_at : (before : List (List ℕ)) (name : List ℕ) (behind : List (List ℕ)) → IsLongFile known name 1048576 → ¬ AllByRecursion (λ n. ¬ IsLongFile known n 1048576) (before ++ name ∷ behind)
    long_at [] name behind long a = a.0 long
    long_at (b ∷ before) name behind long a = long_at before name behind long a.1

    no_short : (before : List (List ℕ)) (name : List ℕ) (behind files : List (List ℕ)) → IsLongFile known name 1048576 → AreKnown known (before ++ name ∷ behind) files → AllByRecursion (λ bytes. length bytes ≤ 1048576) files → ⊥
    no_short [] name behind [] long p a = p
    no_short [] name behind (x ∷ xs) long p a = long_or_short (map.get known name) x p.0 a.0 long
    no_short (b ∷ before) name behind [] long p a = p
    no_short (b ∷ before) name behind (x ∷ xs) long p a = no_short before name behind xs long p.1 a.1

    long_causes : (names : List (List ℕ)) (file count : ℕ) → count ≡ 1048577 → IsFirst (IsFetched (Some known)) (IsLong (Some known)) names file → FileCauses known names (Limit Bytes count)
    long_causes names file count is first = record {
      too_long = λ n. (λ e. (sym (ap count_of_status e) ∙ is, subst (λ ns. SomeIsLong known ns) (sym first.parts) (long_at first.before first.item first.behind first.found)), λ l. ap (Limit Bytes) (is ∙ sym l.0));
      texts = λ files are short. absurd (no_short first.before first.item first.behind files first.found (subst (λ ns. AreKnown known ns files) first.parts are) short);
    }

    module _ (names : List (List ℕ)) (before after : ProvidedFiles) (old new : ℕ) (no_fault : HasFaulted old new → ⊥) where
      abbrev OfFiles : Status → Type 0
      OfFiles s = UnlessFree s (FileCauses known names s)

      fetch_causes : (stop : RunStop) → FetchStopped (Some known) names old new stop → OfFiles (status_of stop)
      fetch_causes (TooManyFiles count) f = absurd f
      fetch_causes (SourceFault file) f = absurd (no_fault f.0)
      fetch_causes (limit_stop file files_kind count) f = absurd f
      fetch_causes (limit_stop file Bytes count) f = long_causes names file count f.0 f.1
      fetch_causes (limit_stop file Tokens count) f = absurd f
      fetch_causes (limit_stop file Nesting count) f = absurd f
      fetch_causes (limit_stop file Locals count) f = absurd f
      fetch_causes (refused_stop refusal) f = absurd f
      fetch_causes memory_stop f = tt

      file_stop : (files : List (List ℕ)) (stop : RunStop) → HaveBytes (Some known) names files → IsProgramStop files stop → OfFiles (status_of stop)
      file_stop files stop h p =
          let s = stopped_status files p.file p.fault in
          subst (λ k. OfFiles (status_of k)) (sym p.stop_is)
          (unless_free s (FileCauses known names s)
          (text_causes names files s h (other_kinds files p.file p.fault).no_limit_of_bytes (stop_causes files p.file p.fault p.stopped)))

      read_causes : (files : List (List ℕ)) (stop : RunStop) → HaveBytes (Some known) names files → ReadStopped files stop → OfFiles (status_of stop)
      read_causes files (TooManyFiles count) h r = file_stop files (TooManyFiles count) h r
      read_causes files (SourceFault file) h r = file_stop files (SourceFault file) h r
      read_causes files (limit_stop file kind count) h r = file_stop files (limit_stop file kind count) h r
      read_causes files (refused_stop refusal) h r = file_stop files (refused_stop refusal) h r
      read_causes files memory_stop h r = tt

      run_causes : (stop : RunStop) → length names ≤ 64 → RunStopped (Some known) before after names old new stop → OfFiles (status_of stop)
      run_causes stop few (inl m) = absurd (omega (arith, few, m.many))
      run_causes stop few (inr (inl f)) = fetch_causes stop f.stopped
      run_causes stop few (inr (inr r)) = read_causes r.files stop r.have_bytes r.stopped

      report_causes : (s : Status) (report : ReportData) → IsReported s → IsVerified (Some known) before after names report → OfFiles s
      report_causes s report is v =
          unless_free s (FileCauses known names s)
          (text_causes names v.files s v.have_bytes (λ e. omega (arith, sym e ∙ six s is)) (program_causes v.files v.program s is v.is_program))

      output_files : (s : Status) (text : List ℕ) → NameFiles names → length names ≤ 64 → IsOutput names (Some known) before after old new s text → OfFiles s
      output_files s text named few (inl u) = absurd (u.refused named)
      output_files s text named few (inr (inl t)) = subst OfFiles (sym t.status_is) (run_causes t.stop few t.stopped)
      output_files s text named few (inr (inr (inl r))) = subst OfFiles (sym r.status_is) (report_causes (report_status r.report) r.report (report_is_reported r.report) r.verified)
      output_files s text named few (inr (inr (inr w))) = subst OfFiles (sym w.status_is) tt

  -- ---- the bytes provided

  module _ (names : List (List ℕ)) (before after : ProvidedFiles) where
    abbrev OfProvided : Status → Type 0
    OfProvided s = UnlessFree s (ProvidedCauses before after names s)

    whole_provided : (files : List (List ℕ)) (s : Status) → AreProvided before after names files → TextCauses files s → OfProvided s
    whole_provided files s h t = unless_free s (ProvidedCauses before after names s) (λ other o. subst (λ fs. TextCauses fs s) (one_provided before after names files other h o) t)

    part_provided : (file : ℕ) (s : Status) → ProvidedBefore before after names file → OfProvided s
    part_provided file s b = unless_free s (ProvidedCauses before after names s) (λ other o. absurd (provided_in_part before after names other file o b))

    file_provided : (files : List (List ℕ)) (stop : RunStop) → AreProvided before after names files → IsProgramStop files stop → OfProvided (status_of stop)
    file_provided files stop h p =
        subst (λ k. OfProvided (status_of k)) (sym p.stop_is) (whole_provided files (stopped_status files p.file p.fault) h (stop_causes files p.file p.fault p.stopped))

    read_provided : (files : List (List ℕ)) (stop : RunStop) → AreProvided before after names files → ReadStopped files stop → OfProvided (status_of stop)
    read_provided files (TooManyFiles count) h r = file_provided files (TooManyFiles count) h r
    read_provided files (SourceFault file) h r = file_provided files (SourceFault file) h r
    read_provided files (limit_stop file kind count) h r = file_provided files (limit_stop file kind count) h r
    read_provided files (refused_stop refusal) h r = file_provided files (refused_stop refusal) h r
    read_provided files memory_stop h r = tt

    module _ (holds : Option Files) (old new : ℕ) where
      fetch_provided : (stop : RunStop) → FetchStopped holds names old new stop → ProvidedTo before after names stop → OfProvided (status_of stop)
      fetch_provided (TooManyFiles count) f h = absurd f
      fetch_provided (SourceFault file) f h = part_provided file (Fault Source) h
      fetch_provided (limit_stop file kind count) f h = part_provided file (Limit kind count) h
      fetch_provided (refused_stop refusal) f h = absurd f
      fetch_provided memory_stop f h = tt

      run_provided : (stop : RunStop) → length names ≤ 64 → RunStopped holds before after names old new stop → OfProvided (status_of stop)
      run_provided stop few (inl m) = absurd (omega (arith, few, m.many))
      run_provided stop few (inr (inl f)) = fetch_provided stop f.stopped f.provided
      run_provided stop few (inr (inr r)) = read_provided r.files stop r.provided r.stopped

      report_provided : (s : Status) (report : ReportData) → IsReported s → IsVerified holds before after names report → OfProvided s
      report_provided s report is v = whole_provided v.files s v.provided (program_causes v.files v.program s is v.is_program)

      output_provided : (s : Status) (text : List ℕ) → IsOutput names holds before after old new s text → NameFiles names → length names ≤ 64 → OfProvided s
      output_provided s text (inl u) named few = absurd (u.refused named)
      output_provided s text (inr (inl t)) named few = subst OfProvided (sym t.status_is) (run_provided t.stop few t.stopped)
      output_provided s text (inr (inr (inl r))) named few = subst OfProvided (sym r.status_is) (report_provided (report_status r.report) r.report (report_is_reported r.report) r.verified)
      output_provided s text (inr (inr (inr w))) named few = subst OfProvided (sym w.status_is) tt

  -- ---- the run

  module _ (words : List (List ℕ)) (holds : Option Files) (before after : ProvidedFiles) (old new : ℕ) where
    -- the kind of a stop: no bad words, and a limit of files if there are too many
    stop_kind : (stop : RunStop) → RunStopped holds before after words old new stop → (kind_of (status_of stop) ≡ 8 → ⊥) × (kind_of (status_of stop) ≡ 12 → 64 < length words)
    stop_kind stop (inl m) = subst (λ k. (kind_of (status_of k) ≡ 8 → ⊥) × (kind_of (status_of k) ≡ 12 → 64 < length words)) (sym m.stop_is) (λ e. omega (arith, e), λ _. m.many)
    stop_kind (TooManyFiles count) (inr (inl f)) = absurd f.stopped
    stop_kind (SourceFault file) (inr (inl f)) = (λ e. omega (arith, e), λ e. absurd (omega (arith, e)))
    stop_kind (limit_stop file files_kind count) (inr (inl f)) = absurd f.stopped
    stop_kind (limit_stop file Bytes count) (inr (inl f)) = (λ e. omega (arith, e), λ e. absurd (omega (arith, e)))
    stop_kind (limit_stop file Tokens count) (inr (inl f)) = absurd f.stopped
    stop_kind (limit_stop file Nesting count) (inr (inl f)) = absurd f.stopped
    stop_kind (limit_stop file Locals count) (inr (inl f)) = absurd f.stopped
    stop_kind (refused_stop refusal) (inr (inl f)) = absurd f.stopped
    stop_kind memory_stop (inr (inl f)) = (λ e. omega (arith, e), λ e. absurd (omega (arith, e)))
    stop_kind stop (inr (inr r)) = of_read stop r.stopped
      where
        of_file : (k : RunStop) → IsProgramStop r.files k → (kind_of (status_of k) ≡ 8 → ⊥) × (kind_of (status_of k) ≡ 12 → 64 < length words)
        of_file k p =
            let kind = ap (λ q. kind_of (status_of q)) p.stop_is in
            let other = other_kinds r.files p.file p.fault in
            (λ e. other.no_words (sym kind ∙ e), λ e. absurd (other.no_limit_of_files (sym kind ∙ e)))

        of_read : (k : RunStop) → ReadStopped r.files k → (kind_of (status_of k) ≡ 8 → ⊥) × (kind_of (status_of k) ≡ 12 → 64 < length words)
        of_read (TooManyFiles count) p = of_file (TooManyFiles count) p
        of_read (SourceFault file) p = of_file (SourceFault file) p
        of_read (limit_stop file kind count) p = of_file (limit_stop file kind count) p
        of_read (refused_stop refusal) p = of_file (refused_stop refusal) p
        of_read memory_stop p = (λ e. omega (arith, e), λ e. absurd (omega (arith, e)))

    abbrev OfWords : Status → Type 0
    OfWords s = UnlessFree s ((s ≡ BadWords) ↔ (¬ NameFiles words))

    named_words : (s : Status) → NameFiles words → (kind_of s ≡ 8 → ⊥) → OfWords s
    named_words s named other = unless_free s ((s ≡ BadWords) ↔ (¬ NameFiles words)) (λ e. absurd (other (ap kind_of e)), λ none. absurd (none named))

    words_causes : (s : Status) (text : List ℕ) → IsOutput words holds before after old new s text → OfWords s
    words_causes s text (inl u) = subst OfWords (sym u.status_is) (λ _. u.refused, λ _. refl)
    words_causes s text (inr (inl t)) = subst OfWords (sym t.status_is) (named_words (status_of t.stop) t.named (stop_kind t.stop t.stopped).0)
    words_causes s text (inr (inr (inl r))) = subst OfWords (sym r.status_is) (named_words (report_status r.report) r.named (λ e. omega (arith, sym e ∙ six (report_status r.report) (report_is_reported r.report))))
    words_causes s text (inr (inr (inr w))) = subst OfWords (sym w.status_is) tt

    abbrev TellsMany : Status → Type 0
    TellsMany s = (count : ℕ) → (s ≡ Limit files_kind count) ↔ (NameFiles words × (count ≡ length words) × (64 < count))

    -- if there are not too many files, the status is no limit of files
    few_known : (s : Status) → length words ≤ 64 → (kind_of s ≡ 12 → ⊥) → UnlessFree s (TellsMany s)
    few_known s few other = unless_free s (TellsMany s) (λ count. (λ e. absurd (other (ap kind_of e)), λ p. absurd (omega (arith, few, p.1, p.2))))

    few_stop : (stop : RunStop) (r : RunStopped holds before after words old new stop) → length words ≤ 64 → UnlessFree (status_of stop) (TellsMany (status_of stop))
    few_stop stop r few = few_known (status_of stop) few (λ e. omega (arith, few, (stop_kind stop r).1 e))

    count_of_stop : (stop : RunStop) → NameFiles words → RunStopped holds before after words old new stop → UnlessFree (status_of stop) (TellsMany (status_of stop))
    count_of_stop stop named (inl m) =
        subst (λ k. UnlessFree (status_of k) (TellsMany (status_of k))) (sym m.stop_is)
        (λ count. (λ e. (named, sym (ap count_of_status e), subst (λ k. 64 < k) (ap count_of_status e) m.many), λ p. ap (Limit files_kind) (sym p.1)))
    count_of_stop stop named (inr (inl f)) = few_stop stop (inr (inl f)) f.few
    count_of_stop stop named (inr (inr r)) = few_stop stop (inr (inr r)) r.few

    count_causes : (s : Status) (text : List ℕ) → IsOutput words holds before after old new s text → UnlessFree s (TellsMany s)
    count_causes s text (inl u) = subst (λ k. UnlessFree k (TellsMany k)) (sym u.status_is) (λ count. (λ e. absurd (omega (arith, ap kind_of e)), λ p. absurd (u.refused p.0)))
    count_causes s text (inr (inl t)) = subst (λ k. UnlessFree k (TellsMany k)) (sym t.status_is) (count_of_stop t.stop t.named t.stopped)
    count_causes s text (inr (inr (inl r))) =
        subst (λ k. UnlessFree k (TellsMany k)) (sym r.status_is)
        (few_known (report_status r.report) r.verified.few (λ e. omega (arith, sym e ∙ six (report_status r.report) (report_is_reported r.report))))
    count_causes s text (inr (inr (inr w))) = subst (λ k. UnlessFree k (TellsMany k)) (sym w.status_is) tt

    -- ---- faults of the source

    read_fault : (files : List (List ℕ)) (stop : RunStop) → ReadStopped files stop → kind_of (status_of stop) ≡ 7 → ⊥
    read_fault files stop r e = go stop r e
      where
        of_file : (k : RunStop) → IsProgramStop files k → kind_of (status_of k) ≡ 7 → ⊥
        of_file k p e = (other_kinds files p.file p.fault).no_fault (sym (ap (λ q. kind_of (status_of q)) p.stop_is) ∙ e)

        go : (k : RunStop) → ReadStopped files k → kind_of (status_of k) ≡ 7 → ⊥
        go (TooManyFiles count) p e = of_file (TooManyFiles count) p e
        go (SourceFault file) p e = of_file (SourceFault file) p e
        go (limit_stop file kind count) p e = of_file (limit_stop file kind count) p e
        go (refused_stop refusal) p e = of_file (refused_stop refusal) p e
        go memory_stop p e = omega (arith, e)

    fetch_fault : (stop : RunStop) → FetchStopped holds words old new stop → kind_of (status_of stop) ≡ 7 → HasFaulted old new
    fetch_fault (TooManyFiles count) f e = absurd f
    fetch_fault (SourceFault file) f e = f.0
    fetch_fault (limit_stop file files_kind count) f e = absurd f
    fetch_fault (limit_stop file Bytes count) f e = absurd (omega (arith, e))
    fetch_fault (limit_stop file Tokens count) f e = absurd f
    fetch_fault (limit_stop file Nesting count) f e = absurd f
    fetch_fault (limit_stop file Locals count) f e = absurd f
    fetch_fault (refused_stop refusal) f e = absurd f
    fetch_fault memory_stop f e = absurd (omega (arith, e))

    stop_fault : (stop : RunStop) → RunStopped holds before after words old new stop → kind_of (status_of stop) ≡ 7 → HasFaulted old new
    stop_fault stop (inl m) e = absurd (omega (arith, sym (ap (λ k. kind_of (status_of k)) m.stop_is) ∙ e))
    stop_fault stop (inr (inl f)) e = fetch_fault stop f.stopped e
    stop_fault stop (inr (inr r)) e = absurd (read_fault r.files stop r.stopped e)

    fault_cause : (s : Status) (text : List ℕ) → IsOutput words holds before after old new s text → s ≡ Fault Source → HasFaulted old new
    fault_cause s text (inl u) e = absurd (omega (arith, ap kind_of (sym u.status_is ∙ e)))
    fault_cause s text (inr (inl t)) e = stop_fault t.stop t.stopped (ap kind_of (sym t.status_is ∙ e))
    fault_cause s text (inr (inr (inl r))) e = absurd (omega (arith, sym (six (report_status r.report) (report_is_reported r.report)) ∙ ap kind_of (sym r.status_is ∙ e)))
    fault_cause s text (inr (inr (inr w))) e = absurd (omega (arith, ap kind_of (sym w.status_is ∙ e)))

  known_causes : (words : List (List ℕ)) (holds : Option Files) (before after : ProvidedFiles) (old new : ℕ) (s : Status) (text : List ℕ) → IsOutput words holds before after old new s text
      → NameFiles words → length words ≤ 64 → ¬ HasFaulted old new → IfSome holds (λ known. UnlessFree s (FileCauses known words s))
  known_causes words None before after old new s text o named few no_fault = tt
  known_causes words (Some known) before after old new s text o named few no_fault = output_files known words before after old new no_fault s text named few o

  output_causes : (words : List (List ℕ)) (holds : Option Files) (before after : ProvidedFiles) (old new : ℕ) (s : Status) (text : List ℕ) → IsOutput words holds before after old new s text → Causes words holds before after old new s
  output_causes words holds before after old new s text o = record {
    bad_words = words_causes words holds before after old new s text o;
    too_many = count_causes words holds before after old new s text o;
    source_fault = fault_cause words holds before after old new s text o;
    provided = output_provided words before after holds old new s text o;
    files = known_causes words holds before after old new s text o;
  }

  nothing_known : (holds : Option Files) → IfSome holds (λ known. Unit {0})
  nothing_known None = tt
  nothing_known (Some known) = tt

  -- the end of a run determines the cause of its status
  pub causes_of_ends : (words : List (List ℕ)) (holds : Option Files) (before after : ProvidedFiles) (old new : ℕ) (taken taken' : Option (List ℕ)) (faults faults' : ℕ) (s : Status) → Ends (IsOutput words holds before after old new) taken taken' faults faults' s → Causes words holds before after old new s
  causes_of_ends words holds before after old new taken taken' faults faults' (Fault Sink) w = record { bad_words = tt; too_many = tt; source_fault = λ e. absurd (sink_is_no_source e); provided = λ named few. tt; files = λ named few no_fault. nothing_known holds }
  causes_of_ends words holds before after old new taken taken' faults faults' (Fault Source) w = output_causes words holds before after old new (Fault Source) w.text w.output
  causes_of_ends words holds before after old new taken taken' faults faults' AllProved w = output_causes words holds before after old new AllProved w.text w.output
  causes_of_ends words holds before after old new taken taken' faults faults' NotAllProved w = output_causes words holds before after old new NotAllProved w.text w.output
  causes_of_ends words holds before after old new taken taken' faults faults' (Refused refusal) w = output_causes words holds before after old new (Refused refusal) w.text w.output
  causes_of_ends words holds before after old new taken taken' faults faults' BadWords w = output_causes words holds before after old new BadWords w.text w.output
  causes_of_ends words holds before after old new taken taken' faults faults' (Limit kind count) w = output_causes words holds before after old new (Limit kind count) w.text w.output
  causes_of_ends words holds before after old new taken taken' faults faults' NoMemory w = output_causes words holds before after old new NoMemory w.text w.output
