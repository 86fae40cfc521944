use Rattle.std.proofs.Common.{subst, sym, ◌∙◌, List}
use Rattle.linear_arith.specs.Stages.{HasAllStages}
use Rattle.linear_arith.specs.declared.elimination.Stage.{Stage}
use Rattle.linear_arith.proofs.solver.answered.Goals as goal

pub values-requires : goal.values-requires
values-requires c =
    let system = c.new-system.result in
    subst (λ (ss : List Stage). HasAllStages system.width system.rows.now ss) (sym (c.as_slice.ensures.value ∙ c.into_stages-stages.ensures)) c.in_ok-run.ensures.stages
