use Rattle.std.proofs.lemmas.Result.{err_from_is_err_and}
use Rattle.resolution.specs.Faults.{IsFaultAmong}
use Rattle.resolution.specs.Items.{source_items}
use Rattle.resolution.specs.Known.{KnownData}
use Rattle.resolution.specs.Modules.{IsKnown, IsWithin}
use Rattle.resolution.proofs.ProgramLaws.{module_entered, module_fault, module_known}
use Rattle.resolution.proofs.modules.enter_source.Goals as goal

pub returns-in_err-enter_tree-clause-unknown : goal.returns-in_err-enter_tree-clause-unknown
returns-in_err-enter_tree-clause-unknown c =
    let fault = c.in_err-enter_tree.field-0.0 in
    let g : (k : KnownData) → IsWithin k c.args.environment.now → IsKnown k c.args.known.now → IsFaultAmong (source_items k c.args.trees.now) fault = λ k within known.
    module_fault k c.args.trees.now c.loop-tree.tree-index c.tree-item.result fault c.loop-tree-test.true c.tree-item.is (c.loop-tree.invariant.known k within known) (c.in_err-enter_tree.ensures.unknown k (c.loop-tree.invariant.within k within) known) in
    let p = err_from_is_err_and c.from_residual.result c.from_residual.ensures.1 in
    rw (p.1, p.2) g

pub loop-tree-preserved : goal.loop-tree-preserved
loop-tree-preserved c = record {
  within = λ k within. c.in_ok-enter_tree.ensures.within k (c.loop-tree.invariant.within k within);
  entered = λ k within known. module_entered k c.args.trees.now c.loop-tree.tree-index c.tree-item.result c.args.program.now c.loop-tree.program c.enter_tree.new.program c.loop-tree-test.true c.tree-item.is (c.loop-tree.invariant.entered k within known) (c.in_ok-enter_tree.ensures.entered k (c.loop-tree.invariant.within k within) known);
  known = λ k within known. module_known k c.args.trees.now c.loop-tree.tree-index c.tree-item.result c.loop-tree-test.true c.tree-item.is (c.loop-tree.invariant.known k within known) (c.in_ok-enter_tree.ensures.known k (c.loop-tree.invariant.within k within) known);
}
