use Rattle.tableau.specs.PoolBranches.{branch_in}
use Rattle.ematching.specs.Instances.{NoInstance, IsInstanceStep}
use Rattle.strategy.proofs.SaturationLemmas.{decided, there, back}
use Rattle.strategy.proofs.saturation.has_all_instances.Goals as goal

pub grow-requires : goal.grow-requires
grow-requires c = c.new-index.ensures c.args.pool.now

pub returns-clause-exact : goal.returns-clause-exact
returns-clause-exact c =
    let ns = c.args.pool.now in
    let d = c.args.branch.now in
    let ms = c.next_instance.new.pool in
    let e = c.next_instance.ensures.extends in
    let b = branch_in ms d in
    decided (NoInstance b) (IsInstanceStep ms b) (NoInstance (branch_in ns d))
    (λ none. back ns ms e d c.requires.over NoInstance none)
    (λ step is none. ((there ns ms e d c.requires.over NoInstance none).each step.entry).none _ _ step.generation is.instance.due)
    c.in_ok-instance.instance c.is_none.result c.in_ok-instance.ensures.due c.is_none.ensures
