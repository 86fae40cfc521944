use Rattle.std.proofs.Common.{subst}
use Rattle.tableau.specs.PoolBranches.{branch_in}
use Rattle.certificates.specs.Due.{IsSaturated}
use Rattle.tableau.specs.Variables.{AreAbove}
use Rattle.tableau.proofs.GraphLemmas.{ok_map}
use Rattle.strategy.proofs.SaturationLemmas.{exact_of}
use Rattle.strategy.proofs.saturation.is_saturated.Goals as goal

pub follow-requires-clause-state : goal.follow-requires-clause-state
follow-requires-clause-state c = c.new-state.ensures c.args.pool.now

pub is_done-requires-clause-variables : goal.is_done-requires-clause-variables
is_done-requires-clause-variables c = subst (λ es. AreAbove c.args.pool.now es c.follow.new.self.variables) c.in_ok-follow.ensures.follows.entries c.in_ok-follow.ensures.state.variables

pub returns-clause-exact : goal.returns-clause-exact
returns-clause-exact c = ok_map c.is_done.result (λ r h. exact_of (IsSaturated c.args.shapes.now (branch_in c.args.pool.now c.args.branch.now)) r h) c.is_done.ensures.exact
