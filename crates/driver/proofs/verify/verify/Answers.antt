use Rattle.std.proofs.Common.{◌≡◌, ◌<◌, [], length, sym, subst, ap}
use Rattle.std.specs.Prelude.{slice_index_or}
use Rattle.report.specs.Lines.{line_feeds}
use Rattle.sum_tree.specs.SumModuleData.{SumModuleData}
use Rattle.driver.specs.Pairs.{ArePutBehind}
use Rattle.driver.specs.Verified.{IsFunctionRecord}
use Rattle.driver.proofs.ModuleLemmas.{feeds_at, module_more}
use Rattle.driver.proofs.verify.verify.Goals as goal

pub loop-module-preserved : goal.loop-module-preserved
loop-module-preserved g c =
    let files = c.args.files.now in
    let m : SumModuleData = c.module-item.result in
    let bytes = slice_index_or files m.file [] in
    let placed : m.file < length files = subst (λ (v : SumModuleData). v.file < length files) (sym c.module-item.is) (c.requires.placed c.loop-module.module-index m c.loop-module-test.true) in
    let number = ap (λ (v : SumModuleData). v.file) c.«module».view_is in
    let feeds : c.index-feeds.result.now ≡ line_feeds bytes = subst (λ k. c.index-feeds.result.now ≡ line_feeds (slice_index_or files k [])) number
    (feeds_at files c.in_ok-feeds.feeds.items c.«module».inside.file c.index-feeds.result.now (subst (λ k. k < length files) (sym number) placed) c.in_ok-feeds.ensures c.index-feeds.ensures) in
    module_more files c.args.program.now c.loop-module.module-index m c.loop-module.functions.items c.verify_module.new.records.items c.loop-module-test.true c.loop-module.invariant
    (subst (λ (v : SumModuleData). ArePutBehind (IsFunctionRecord (slice_index_or files v.file []) v) v.functions c.loop-module.functions.items c.verify_module.new.records.items) c.module-item.is
    (c.in_ok-verify_module.ensures bytes feeds))
