use Rattle.std.proofs.Common.{◌++◌, ◌∙◌, sym, subst, take}
use Rattle.front_end.specs.FileFault.{IfInFile}
use Rattle.front_end.specs.Modules.{AreNoSums, HasUnbuilt, numbered}
use Rattle.front_end.specs.ModuleReading.{AreRead}
use Rattle.front_end.proofs.FaultLemmas.{hands_on}
use Rattle.front_end.proofs.ModuleLemmas.{all_more, in_file, stops_in_all}
use Rattle.front_end.proofs.modules.read_modules.Goals as goal

pub returns-in_err-add_all : goal.returns-in_err-add_all
returns-in_err-add_all c =
    let source = c.as_slice.ensures.value ∙ c.source.view_is ∙ c.index-sources-number.is in
    let front = numbered 0 (take c.loop-number.number c.args.sources.now) in
    hands_on c.from_residual.result _ _ _ (AreNoSums c.args.sources.now) c.from_residual.ensures.1
    (λ file fault. stops_in_all c.args.sources.now c.loop-number.number c.index-sources-number.result file fault c.loop-number-test.true)
    (subst (λ modules. IfInFile c.in_err-add_all.field-0.0 (HasUnbuilt (front ++ in_file c.loop-number.number modules))) source (c.in_err-add_all.ensures front c.loop-number.invariant))

pub loop-number-preserved : goal.loop-number-preserved
loop-number-preserved c =
    let source = c.as_slice.ensures.value ∙ c.source.view_is ∙ c.index-sources-number.is in
    let front = numbered 0 (take c.loop-number.number c.args.sources.now) in
    subst (λ list. AreRead list c.add_all.new.self.modules.items c.add_all.new.self.taken)
    (sym (all_more c.args.sources.now c.loop-number.number c.index-sources-number.result c.loop-number-test.true))
    (subst (λ modules. AreRead (front ++ in_file c.loop-number.number modules) c.add_all.new.self.modules.items c.add_all.new.self.taken) source (c.in_ok-add_all.ensures front c.loop-number.invariant))
