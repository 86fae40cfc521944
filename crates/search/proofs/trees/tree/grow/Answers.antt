use Rattle.std.proofs.Common.{◌++◌, ◌∷◌, [], reverse, ap, ◌∙◌, subst, sym, Vec}
use Rattle.tableau.specs.PoolBranches.{IsOver}
use Rattle.search.specs.declared.trees.application.PoolApplication.{PoolApplication}
use Rattle.search.specs.declared.trees.application.PoolApplication.TheVariants.{Grown}
use Rattle.search.specs.declared.trees.tree.SearchTree.{SearchTree}
use Rattle.search.proofs.TreeLemmas.{tree_straight, tree_fork}
use Rattle.search.proofs.trees.tree.grow.Goals as goal
use Rattle.search.proofs.trees.tree.grow.Goals.{then-is_fork+in_ok-fork, else-is_fork+in_ok-push_all}

pub returns : goal.returns
returns c = λ shapes p spent application h is from due. (
    let ns = c.args.pool.now in
    let old = c.args.tree.now in
    let new : SearchTree = record { branch = c.if-is_fork.tree.branch; waiting = c.if-is_fork.tree.waiting; text = c.push.new.self } in
    let pushed = c.in_ok-push.ensures.items in
    elim c.if-is_fork.branch [
      | then-is_fork+in_ok-fork w ↦ (
          let ended = w.in_ok-fork.ensures in
          tree_fork shapes p spent ns old new h (subst (λ (t : SearchTree). IsOver ns t.branch) (sym w.tree-is) ended.over) c.args.extension application (sym c.is_fork.ensures ∙ w.if-is_fork.true) c.requires.some
          (ap (λ (t : SearchTree). t.branch.entries) w.tree-is ∙ ended.entries)
          (ap (λ (t : SearchTree). reverse t.waiting.items) w.tree-is ∙ ended.waiting)
          (pushed ∙ ap (λ (t : SearchTree). t.text.items ++ Grown c.args.extension ∷ []) w.tree-is ∙ ap (λ (ts : Vec PoolApplication _). ts.items ++ Grown c.args.extension ∷ []) ended.text)
          is from due)
      | else-is_fork+in_ok-push_all w ↦ (
          let ended = w.in_ok-push_all.ensures in
          tree_straight shapes p spent ns old new h (subst (λ (t : SearchTree). IsOver ns t.branch) (sym w.tree-is) ended.over) c.args.extension application (sym c.is_fork.ensures ∙ w.if-is_fork.false)
          (ap (λ (t : SearchTree). t.branch.entries) w.tree-is ∙ ended.entries)
          (ap (λ (t : SearchTree). t.waiting.items) w.tree-is)
          (pushed ∙ ap (λ (t : SearchTree). t.text.items ++ Grown c.args.extension ∷ []) w.tree-is)
          is from due)
    ])
