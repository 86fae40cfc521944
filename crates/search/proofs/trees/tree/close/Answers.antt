use Rattle.std.proofs.Common.{refl}
use Rattle.search.specs.declared.trees.tree.SearchTree.{SearchTree}
use Rattle.search.proofs.TreeLemmas.{match_map, tree_closed, tree_done}
use Rattle.search.proofs.trees.tree.close.Goals as goal

pub returns-clause-shown : goal.returns-clause-shown
returns-clause-shown c = λ shapes p spent application h is due. (
    let ns = c.args.pool.now in
    let old = c.args.tree.now in
    let between : SearchTree = record { branch = old.branch; waiting = old.waiting; text = c.push.new.self } in
    let new = c.resume.new.tree in
    match_map c.in_ok-more.more _ _ _ _ (λ r. tree_closed shapes p spent ns old between new c.args.closing application refl refl c.in_ok-push.ensures.items h is due r) (λ r. tree_done shapes p spent ns old between new c.args.closing application refl c.in_ok-push.ensures.items h is due r) c.in_ok-more.ensures.shown)
