use Rattle.std.proofs.lemmas.Result.{err_from_is_err_and}
use Rattle.scopes.specs.Meanings.{IfUnknown}
use Rattle.body_names.proofs.JoinedLaws.{unknown-more}
use Rattle.resolution.specs.Clauses.{HasUnknownBehind, placed, placed_one}
use Rattle.resolution.specs.Setting.{scope_of}
use Rattle.resolution.proofs.ClauseLaws.{block_next, block_unknown}
use Rattle.resolution.proofs.clauses.resolve_block.Goals as goal

pub loop-tree-preserved : goal.loop-tree-preserved
loop-tree-preserved c = block_next (scope_of c.args.context.now) c.args.block c.args.trees.now c.loop-tree.tree-index c.tree-item.result c.args.into.now c.loop-tree.into c.resolve_next.new.into c.loop-tree-test.true c.tree-item.is c.loop-tree.invariant c.in_ok-resolve_next.ensures.added

pub returns-in_err-resolve_next-clause-unknown : goal.returns-in_err-resolve_next-clause-unknown
returns-in_err-resolve_next-clause-unknown c =
    let w = scope_of c.args.context.now in
    let old = c.args.into.now in
    let now = c.loop-tree.into in
    let xs = c.args.trees.now in
    let i = c.loop-tree.tree-index in
    let x = c.tree-item.result in
    let fault = c.in_err-resolve_next.field-0.0 in
    let P : Type 0 = HasUnknownBehind w (placed_one c.args.block x) now in
    let Q : Type 0 = HasUnknownBehind w (placed c.args.block xs) old in
    let needs : P → Q = block_unknown w c.args.block xs i x old now c.loop-tree-test.true c.tree-item.is c.loop-tree.invariant in
    let g : IfUnknown fault Q = unknown-more fault {P = P} {Q = Q} needs c.in_err-resolve_next.ensures.unknown in
    let p = err_from_is_err_and c.from_residual.result c.from_residual.ensures.1 in
    rw (p.1, p.2) g
