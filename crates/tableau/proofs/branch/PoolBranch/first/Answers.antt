use Rattle.std.proofs.Common.{ap, ◌∙◌}
use Rattle.tableau.specs.Logs.{value_in}
use Rattle.tableau.specs.PoolBranches.{BranchData}
use Rattle.tableau.proofs.AnswerLemmas.{first_says}
use Rattle.tableau.proofs.branch.PoolBranch.first.Goals as goal

pub returns : goal.returns
returns c =
    first_says c.args.pool.now c.one_number.ensures c.args.self.now c.requires.over c.args.formula c.requires.formula c.value.result (c.value.ensures ∙ ap (λ (d : BranchData). value_in d.firsts c.args.formula) c.self.view_is)
