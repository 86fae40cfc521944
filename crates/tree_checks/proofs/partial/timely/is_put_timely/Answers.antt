use Rattle.std.proofs.Common.{◌↔◌, IsTrue, subst}
use Rattle.std.specs.Int.{w128}
use Rattle.std.specs.Prelude.{IfOk}
use Rattle.std.proofs.lemmas.Int.{to_z-of_z}
use Rattle.tableau.specs.PoolBranches.{branch_in}
use Rattle.tableau.specs.Terms.{term_at}
use Rattle.tree_checks.specs.Bounds.{IsBoundBy}
use Rattle.tree_checks.proofs.partial.timely.is_put_timely.Goals as goal

pub returns-in-Bound-clause-exact : goal.returns-in-Bound-clause-exact
returns-in-Bound-clause-exact c =
    let ns = c.args.pool.now in
    let g = c.in-Bound.bound in
    rw c.in-Bound.is (subst (λ z. IfOk c.is_bound.result (λ known. IsTrue known ↔ IsBoundBy c.args.shapes.now ns (branch_in ns c.args.branch.now) (term_at ns c.args.term) z g.values g.elimination)) (to_z-of_z w128 c.args.number c.ranges.number) c.is_bound.ensures.exact)
