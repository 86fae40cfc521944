use Rattle.std.proofs.lemmas.Result.{err_from_is_err_and}
use Rattle.scopes.specs.Meanings.{IfUnknown}
use Rattle.std.proofs.Common.{[], ◌∷◌}
use Rattle.body_names.proofs.JoinedLaws.{unknown-more}
use Rattle.resolution.specs.Clauses.{placed}
use Rattle.resolution.specs.Setting.{scope_of}
use Rattle.resolution.specs.Items.{HasUnknownInOne}
use Rattle.resolution.proofs.LoopLaws.{block_next, block_unknown}
use Rattle.resolution.proofs.functions.add_block.Goals as goal

pub loop-tree-preserved : goal.loop-tree-preserved
loop-tree-preserved c =
    block_next (scope_of c.args.context.now) c.args.outer.now c.args.at c.args.block c.args.trees.now c.loop-tree.tree-index c.tree-item.result c.args.into.now c.loop-tree.into c.add_clause.new.into c.loop-tree-test.true c.tree-item.is c.loop-tree.invariant c.in_ok-add_clause.ensures.added

pub returns-in_err-add_clause-clause-unknown : goal.returns-in_err-add_clause-clause-unknown
returns-in_err-add_clause-clause-unknown c =
    let scope = scope_of c.args.context.now in
    let outer = c.args.outer.now in
    let block = c.args.block in
    let tree = c.tree-item.result in
    let fault = c.in_err-add_clause.field-0.0 in
    let g : IfUnknown fault (HasUnknownInOne scope outer (placed block c.args.trees.now)) =
    unknown-more fault {P = HasUnknownInOne scope outer (placed block (tree ∷ []))} {Q = HasUnknownInOne scope outer (placed block c.args.trees.now)} (block_unknown scope outer block c.args.trees.now c.loop-tree.tree-index tree c.loop-tree-test.true c.tree-item.is) c.in_err-add_clause.ensures.unknown in
    let p = err_from_is_err_and c.from_residual.result c.from_residual.ensures.1 in
    rw (p.1, p.2) g
