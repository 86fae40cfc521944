use Rattle.std.proofs.Common.{map, take}
use Rattle.base.specs.Pairs.{Paired}
use Rattle.syntax_tree.specs.Loops.{IsLoopTree}
use Rattle.item_parser.proofs.source.module.read_each_loop.Given as goal

abbrev pub invariant-loop-spec : goal.invariant-loop-spec
invariant-loop-spec l = Paired IsLoopTree (map (λ s. s.now) (take l.spec-index l.spec-items)) l.trees.items
