use Rattle.std.proofs.Common.{◌≤◌, ◌<◌, ℕ, length, List, get_or, sym, subst}
use Rattle.std.specs.List.{AllByRecursion}
use Rattle.front_end.specs.Program.{IsProgramOf}
use Rattle.sum_tree.specs.SumModuleData.{SumModuleData}
use Rattle.driver.specs.Verified.{AreVerifiable}
use Rattle.driver.proofs.Placed.{placed, verifiable}
use Rattle.driver.proofs.ReportLemmas.{all_short, each_short, few_files}
use Rattle.driver.proofs.top.report_of.Goals as goal

pub program_of-requires-clause-few : goal.program_of-requires-clause-few
program_of-requires-clause-few g c =
    subst (λ fs. length fs ≤ 64) (sym c.as_slice.ensures.value) (few_files _ c.args.names.now c.in_ok-files.files.items 64 c.in_ok-files.ensures.bytes c.if-names-gt-FILES_LIMIT.false)

pub program_of-requires-clause-short : goal.program_of-requires-clause-short
program_of-requires-clause-short g c =
    subst (AllByRecursion (λ bytes. length bytes ≤ 1048576)) (sym c.as_slice.ensures.value) (all_short _ c.args.names.now c.in_ok-files.files.items c.in_ok-files.ensures.bytes)

pub verify-requires-clause-short : goal.verify-requires-clause-short
verify-requires-clause-short g c =
    each_short c.as_slice-2.result.now (subst (AllByRecursion (λ bytes. length bytes ≤ 1048576)) (sym c.as_slice-2.ensures.value) (all_short _ c.args.names.now c.in_ok-files.files.items c.in_ok-files.ensures.bytes))

pub verify-requires-clause-placed : goal.verify-requires-clause-placed
verify-requires-clause-placed g c =
    subst (λ (program : List SumModuleData). (k : ℕ) (d : SumModuleData) → k < length program → (get_or program k d).file < length c.as_slice-2.result.now) (sym c.as_slice-3.ensures.value)
    (subst (λ (files : List (List ℕ)). (k : ℕ) (d : SumModuleData) → k < length c.in_ok-program.program.items → (get_or c.in_ok-program.program.items k d).file < length files) (sym c.as_slice-2.ensures.value)
    (placed c.in_ok-files.files.items c.in_ok-program.program.items (subst (λ files. IsProgramOf files c.in_ok-program.program.items) c.as_slice.ensures.value c.in_ok-program.ensures.ok)))

pub verify-requires-clause-verifiable : goal.verify-requires-clause-verifiable
verify-requires-clause-verifiable g c =
    subst AreVerifiable (sym c.as_slice-3.ensures.value)
    (verifiable c.in_ok-files.files.items c.in_ok-program.program.items (subst (λ files. IsProgramOf files c.in_ok-program.program.items) c.as_slice.ensures.value c.in_ok-program.ensures.ok))
