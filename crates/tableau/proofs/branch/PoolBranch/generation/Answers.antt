use Rattle.std.proofs.Common.{ap, ◌∙◌}
use Rattle.tableau.specs.Logs.{value_in}
use Rattle.tableau.specs.PoolBranches.{BranchData}
use Rattle.tableau.proofs.AnswerLemmas.{generation_is}
use Rattle.tableau.proofs.branch.PoolBranch.generation.Goals as goal

pub returns : goal.returns
returns c =
    generation_is c.args.pool.now c.one_number.ensures c.args.self.now c.requires.over c.args.term c.requires.term c.value.result (c.value.ensures ∙ ap (λ (d : BranchData). value_in d.generations c.args.term) c.self.view_is)
