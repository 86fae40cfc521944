use Rattle.std.proofs.Common.{◌≡◌, length}
use Rattle.indexmap.specs.IndexMap.{get}
use Rattle.term_pool.specs.NodeCodes.{same_node}
use Rattle.congruence_closure.specs.Signatures.{class_in, classes_among}
use Rattle.congruence_closure.specs.States.{IsKept}
use Rattle.congruence_closure.proofs.classes.state.State.settle.Given as goal

abbrev pub invariant-loop-link : goal.invariant-loop-link
invariant-loop-link l = record {
  nodes : l.self.nodes.items ≡ l.fn.self.nodes.items;
  equations : l.self.equations.items ≡ l.fn.self.equations.items;
  kept : IsKept l.self.nodes.items l.self.equations.items l.self.classes.items l.self.members.items l.self.users.items (get same_node l.self.table) l.self.links.items l.self.waiting.items;
}

abbrev pub decreases-loop-link : goal.decreases-loop-link
decreases-loop-link l = classes_among (length l.fn.self.nodes.items) (class_in l.self.classes.items)
