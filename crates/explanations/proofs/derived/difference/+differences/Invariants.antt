use Rattle.std.proofs.Common.{◌≡◌, ◌≤◌, ◌+◌, ◌*◌, take}
use Rattle.congruence_closure.specs.Links.{Linked}
use Rattle.congruence_closure.specs.Numbers.{number_at}
use Rattle.explanations.specs.Positions.{one_at, other_at, IsPosition, AreFound}
use Rattle.explanations.proofs.derived.difference.+differences.Given as goal

abbrev pub decreases-differences : goal.decreases-differences
decreases-differences l = 4 * number_at l.graph.numbers.now l.position.one + 3

abbrev pub decreases-take_turn : goal.decreases-take_turn
decreases-take_turn l = 4 * number_at l.graph.numbers.now l.position.one + 2

abbrev pub decreases-parts : goal.decreases-parts
decreases-parts l = 4 * number_at l.graph.numbers.now l.position.one + 1

abbrev pub decreases-two : goal.decreases-two
decreases-two l = 4 * number_at l.graph.numbers.now l.position.one

abbrev pub decreases-three : goal.decreases-three
decreases-three l = 4 * number_at l.graph.numbers.now l.position.one

abbrev pub invariant-differences-loop-alloc : goal.invariant-differences-loop-alloc
invariant-differences-loop-alloc l = record {
  at : IsPosition l.pool l.graph.nodes.now l.graph.numbers.now l.position;
  linked : Linked (take l.before l.graph.links.now) l.position.one l.position.other;
  less : number_at l.graph.numbers.now l.position.one ≤ number_at l.graph.numbers.now l.fn.position.one;
  found : AreFound l.pool l.graph.nodes.now l.graph.links.now l.graph.numbers.now l.before (one_at l.pool l.graph.numbers.now l.fn.position) (one_at l.pool l.graph.numbers.now l.position) l.fn.found.items l.found.items;
  same : other_at l.pool l.graph.numbers.now l.position ≡ other_at l.pool l.graph.numbers.now l.fn.position;
}

abbrev pub decreases-differences-loop-alloc : goal.decreases-differences-loop-alloc
decreases-differences-loop-alloc l = number_at l.graph.numbers.now l.position.one
