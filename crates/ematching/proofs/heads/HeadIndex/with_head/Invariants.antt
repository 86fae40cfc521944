use Rattle.std.proofs.Common.{List}
use Rattle.term_pool.specs.declared.node.Node.{Node}
use Rattle.ematching.specs.Heads.{IsIndexOf}
use Rattle.ematching.proofs.ListedLemmas.{IsHeadWalk, steps_to}
use Rattle.ematching.proofs.heads.HeadIndex.with_head.Given as goal

abbrev pub invariant-loop-next : goal.invariant-loop-next
invariant-loop-next l = (ns : List Node) → IsIndexOf ns l.self → IsHeadWalk ns l.fn.head l.next l.numbers.items

abbrev pub decreases-loop-next : goal.decreases-loop-next
decreases-loop-next l = steps_to l.next
