use Rattle.std.proofs.Common.{◌++◌, ◌∷◌, [], subst, take}
use Rattle.front_end.specs.FileFault.{IfInFile}
use Rattle.front_end.specs.Modules.{HasUnbuilt}
use Rattle.front_end.proofs.FaultLemmas.{hands_on}
use Rattle.front_end.proofs.ModuleLemmas.{in_file, stops_in_file}
use Rattle.front_end.proofs.modules.Found.add_all.Goals as goal

pub returns-in_err-add : goal.returns-in_err-add
returns-in_err-add c = λ before a.
    let front = before ++ in_file c.args.file (take c.loop-module.module-index c.args.modules.now) in
    hands_on c.from_residual.result _ _ _ (HasUnbuilt (before ++ in_file c.args.file c.args.modules.now)) c.from_residual.ensures.1
    (λ file fault. stops_in_file before c.args.file c.args.modules.now c.loop-module.module-index c.module-item.result file fault c.loop-module-test.true)
    (subst (λ m. IfInFile c.in_err-add.field-0.0 (HasUnbuilt (front ++ (c.args.file, m) ∷ []))) c.module-item.is (c.in_err-add.ensures front (c.loop-module.invariant before a)))
