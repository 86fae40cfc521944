use Rattle.std.proofs.Common.{sym, subst}
use Rattle.std.specs.Prelude.{MatchOption}
use Rattle.tableau.specs.PoolBranches.{branch_in}
use Rattle.ematching.specs.Numbers.{formula_at}
use Rattle.ematching.specs.Matches.{AreMatches}
use Rattle.ematching.proofs.HeadLemmas.{index_later}
use Rattle.ematching.specs.Instances.{NoInstanceAt, IsQuantifiedAt}
use Rattle.ematching.proofs.QuantifierLemmas.{free_grown}
use Rattle.ematching.proofs.StepLemmas.{at_position, on_ok}
use Rattle.ematching.proofs.instances.due.instance_at.Goals as goal

pub returns-in_default-clause-due : goal.returns-in_default-clause-due
returns-in_default-clause-due c = subst (λ o. MatchOption o (NoInstanceAt (branch_in c.args.pool.now c.args.branch.now) c.args.i) (IsQuantifiedAt c.args.pool.now (branch_in c.args.pool.now c.args.branch.now) c.args.i)) c.in_default.is c.in_ok-found.ensures.is

pub matches-requires : goal.matches-requires
matches-requires c =
    let known = subst (λ o. MatchOption o (NoInstanceAt (branch_in c.args.pool.now c.args.branch.now) c.args.i) (IsQuantifiedAt c.args.pool.now (branch_in c.args.pool.now c.args.branch.now) c.args.i)) c.in-Some.is c.in_ok-found.ensures.is in
    record { over = c.requires.over; index = c.in_ok-grow.ensures; formula = known.is.formula }

pub instance_among-requires : goal.instance_among-requires
instance_among-requires c =
    let known = subst (λ o. MatchOption o (NoInstanceAt (branch_in c.args.pool.now c.args.branch.now) c.args.i) (IsQuantifiedAt c.args.pool.now (branch_in c.args.pool.now c.args.branch.now) c.args.i)) c.in-Some.is c.in_ok-found.ensures.is in
    record {
      over = c.requires.over;
      quantified = known.is;
      terms = subst (AreMatches c.args.pool.now (branch_in c.args.pool.now c.args.branch.now) (formula_at c.args.pool.now c.in-Some.quantified.formula)) (sym c.as_slice.ensures.value) c.in_ok-terms.ensures;
    }

pub returns-clause-index : goal.returns-clause-index
returns-clause-index c = on_ok c.instance_among.result (index_later c.args.pool.now c.instance_among.new.pool c.instance_among.ensures.extends c.grow.new.self c.in_ok-grow.ensures)

pub returns-clause-free : goal.returns-clause-free
returns-clause-free c = on_ok c.instance_among.result (free_grown c.args.pool.now c.instance_among.new.pool c.quantified_at.new.quantifiers c.instance_among.ensures.extends c.in_ok-found.ensures.free)

pub returns-clause-due : goal.returns-clause-due
returns-clause-due c =
    let known = subst (λ o. MatchOption o (NoInstanceAt (branch_in c.args.pool.now c.args.branch.now) c.args.i) (IsQuantifiedAt c.args.pool.now (branch_in c.args.pool.now c.args.branch.now) c.args.i)) c.in-Some.is c.in_ok-found.ensures.is in
    at_position c.instance_among.new.pool (branch_in c.args.pool.now c.args.branch.now) c.in-Some.quantified.entry c.args.i known.position c.instance_among.result c.instance_among.ensures.due
