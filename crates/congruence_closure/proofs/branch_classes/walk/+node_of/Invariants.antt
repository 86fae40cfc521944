use Rattle.std.proofs.Common.{◌≡◌, ◌≤◌, ◌+◌, ◌*◌, max, length, nat_eq}
use Rattle.indexmap.specs.IndexMap.{get}
use Rattle.congruence_closure.specs.Numbers.{AreKnownFor}
use Rattle.congruence_closure.specs.Known.{IsGrown}
use Rattle.congruence_closure.proofs.branch_classes.walk.+node_of.Given as goal

abbrev pub decreases-node_of : goal.decreases-node_of
decreases-node_of l = 4 * l.number + 2

abbrev pub decreases-make : goal.decreases-make
decreases-make l = 4 * l.number + 1

abbrev pub decreases-one : goal.decreases-one
decreases-one l = 4 * l.a + 4

abbrev pub decreases-two : goal.decreases-two
decreases-two l = 4 * max l.a l.b + 4

abbrev pub decreases-walk_list : goal.decreases-walk_list
decreases-walk_list l = 4 * l.list + 3

abbrev pub decreases-quantified : goal.decreases-quantified
decreases-quantified l = 4 * max l.a l.b + 4

abbrev pub decreases-three : goal.decreases-three
decreases-three l = 4 * max l.a (max l.b l.c) + 4

abbrev pub invariant-walk_list-loop-rest : goal.invariant-walk_list-loop-rest
invariant-walk_list-loop-rest l = record {
  equations : l.nodes.classes.equations ≡ l.fn.nodes.classes.equations;
  grown : IsGrown l.pool l.bound l.fn.nodes.classes.nodes l.nodes.classes.nodes (get nat_eq l.fn.known) (get nat_eq l.known);
  numbered : AreKnownFor l.pool l.list l.fn.nodes.classes.nodes l.nodes.classes.nodes l.fn.nodes.numbers.items l.nodes.numbers.items (get nat_eq l.known);
  within : l.rest ≤ length l.lists.items;
}

abbrev pub decreases-walk_list-loop-rest : goal.decreases-walk_list-loop-rest
decreases-walk_list-loop-rest l = l.rest
