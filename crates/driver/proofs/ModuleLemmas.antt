-- The records of a program, module after module.
use Rattle.std.proofs.Common.{◌≡◌, ℕ, ◌+◌, ◌<◌, List, [], ◌++◌, length, map, take, get_or, sym, subst, ◌∙◌}
use Rattle.report.specs.Lines.{line_feeds}
use Rattle.std.specs.Prelude.{slice_index_or}
use Rattle.std.proofs.lemmas.List.{append-nil, get_or-map, take_more}
use Rattle.std.proofs.lemmas.Grind.{flat_map-append}
use Rattle.sum_tree.specs.SumModuleData.{SumModuleData}
use Rattle.report.specs.ReportData.{FunctionRecordData}
use Rattle.base.specs.Pairs.{Paired}
use Rattle.driver.specs.Pairs.{ArePutBehind}
use Rattle.driver.specs.Verified.{IsFunctionRecord, IsRecordIn, functions_of, functions_of_module}
use Rattle.driver.proofs.PairLemmas.{paired_both, paired_map}

more_functions : (program : List SumModuleData) (i : ℕ) (d : SumModuleData) → i < length program → functions_of (take (i + 1) program) ≡ functions_of (take i program) ++ functions_of_module (get_or program i d)
more_functions program i d h =
    (λ k. functions_of (take_more program i d h k)) ∙ flat_map-append functions_of_module (take i program) _ ∙ (λ k. functions_of (take i program) ++ append-nil (functions_of_module (get_or program i d)) k)

-- the records of one module more
pub module_more : (files : List (List ℕ)) (program : List SumModuleData) (i : ℕ) (d : SumModuleData) (before after : List FunctionRecordData) → i < length program
    → Paired (IsRecordIn files) (functions_of (take i program)) before
    → ArePutBehind (IsFunctionRecord (slice_index_or files (get_or program i d).file []) (get_or program i d)) (get_or program i d).functions before after
    → Paired (IsRecordIn files) (functions_of (take (i + 1) program)) after
module_more files program i d before after h p more =
    let m = get_or program i d in
    subst (λ fs. Paired (IsRecordIn files) fs after) (sym (more_functions program i d h))
    (subst (Paired (IsRecordIn files) (functions_of (take i program) ++ functions_of_module m)) (sym more.after_is)
    (paired_both (IsRecordIn files) (functions_of (take i program)) before (functions_of_module m) more.found p
    (paired_map (IsRecordIn files) (λ f. (m, f)) m.functions more.found more.paired)))

-- ---- the line feeds of a file

pub feeds_at : (files feeds : List (List ℕ)) (k : ℕ) (d : List ℕ) → k < length files → feeds ≡ map line_feeds files → d ≡ slice_index_or feeds k d → d ≡ line_feeds (slice_index_or files k [])
feeds_at files feeds k d h are is = is ∙ (λ i. slice_index_or (are i) k d) ∙ get_or-map line_feeds files k [] d h
