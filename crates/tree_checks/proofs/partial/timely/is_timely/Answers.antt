use Rattle.std.proofs.Common.{◌↔◌, IsTrue, FitsSigned, [], rules, subst}
use Rattle.std.specs.Int.{w128}
use Rattle.std.specs.Prelude.{All, IfOk}
use Rattle.std.proofs.lemmas.Int.{to_z-of_z}
use Rattle.std.proofs.lemmas.List.Elements.{All-head}
use Rattle.tableau.specs.PoolBranches.{branch_in, IsTermNumber}
use Rattle.tableau.specs.Terms.{term_at}
use Rattle.search.specs.Applications.{terms_of}
use Rattle.tree_checks.specs.Timely.{IsPutBy}
use Rattle.tree_checks.proofs.partial.timely.is_timely.Goals as goal

pub is_put_timely-requires-clause-term : goal.is_put_timely-requires-clause-term
is_put_timely-requires-clause-term c =
    let ns = c.args.pool.now in
    All-head (IsTermNumber ns) c.in-Bound.term [] (subst (λ r. All (IsTermNumber ns) (terms_of r)) c.in-Bound.is c.requires.numbers.terms)

pub returns-in-Split-clause-exact : goal.returns-in-Split-clause-exact
returns-in-Split-clause-exact c = rw c.in-Split.is c.is_split_timely.ensures.exact

pub returns-in-Cut-clause-exact : goal.returns-in-Cut-clause-exact
returns-in-Cut-clause-exact c = rw c.in-Cut.is c.is_cut_timely.ensures.exact

pub returns-in-Bound-clause-exact : goal.returns-in-Bound-clause-exact
returns-in-Bound-clause-exact c =
    let ns = c.args.pool.now in
    let fits : FitsSigned w128 c.in-Bound.number = search rules in
    rw c.in-Bound.is (subst (λ z. IfOk c.is_put_timely.result (λ known. IsTrue known ↔ IsPutBy c.args.shapes.now ns (branch_in ns c.args.branch.now) (term_at ns c.in-Bound.term) z c.args.grounds.now)) (to_z-of_z w128 c.in-Bound.number fits) c.is_put_timely.ensures.exact)
