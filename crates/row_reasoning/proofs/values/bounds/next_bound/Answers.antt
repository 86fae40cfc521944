use Rattle.std.proofs.Common.{nat_eq}
use Rattle.indexmap.specs.IndexMap.{get}
use Rattle.tableau.specs.PoolBranches.{branch_in}
use Rattle.row_reasoning.proofs.BoundLemmas.{match_option_map, all_whole, bound_shown}
use Rattle.row_reasoning.proofs.values.bounds.next_bound.Goals as goal

pub returns : goal.returns
returns c = λ class named. (
    let ns = c.args.pool.now in
    let b = branch_in ns c.args.branch.now in
    let found = get nat_eq c.in_ok-numbers.numbers in
    match_option_map c.first_bound.result _ _ _ _ (all_whole ns b c.args.names.now found c.in_ok-numbers.ensures class named c.args.classes.now.keys c.args.values.now) (bound_shown ns b c.args.names.now found c.in_ok-numbers.ensures class named c.args.classes.now.keys c.args.values.now) c.first_bound.ensures)
