use Rattle.std.proofs.Common.{◌∙◌, refl, subst, arith}
use Rattle.explanations.specs.declared.frame.Frame.TheVariants.{Only, FirstOfTwo, SecondOfTwo, FirstOfThree, SecondOfThree, ThirdOfThree}
use Rattle.congruence_closure.specs.Numbers.{number_at}
use Rattle.explanations.specs.Positions.{one_at, other_at, IsStepTo, AreFound, IsTurn}
use Rattle.explanations.proofs.PositionLemmas.{found_then, step_read, one_next, two_first, two_linked, two_less, two_next, three_first, three_second, three_linked, three_second_linked, three_less, three_second_less, three_next}
use Rattle.explanations.proofs.TurnLemmas.{when_true, when_false, pair_one, pair_two, pair_three, pair_unlike, tied_alike, loose_found}
use Rattle.explanations.proofs.derived.difference.+differences.Goals as goal

pub differences-returns-in-None : goal.differences-returns-in-None
differences-returns-in-None t c =
    let done : IsTurn c.args.pool.now c.args.graph.nodes.now c.args.graph.links.now c.args.graph.numbers.now c.args.before c.loop-alloc.position c.loop-alloc.found.items c.take_turn.new.found.items c.in_ok-next.field-0 = c.in_ok-next.ensures in
    let found = subst (IsTurn c.args.pool.now c.args.graph.nodes.now c.args.graph.links.now c.args.graph.numbers.now c.args.before c.loop-alloc.position c.loop-alloc.found.items c.take_turn.new.found.items) c.in-None.is done in
    found_then c.args.pool.now c.args.graph.nodes.now c.args.graph.links.now c.args.graph.numbers.now c.args.before (one_at c.args.pool.now c.args.graph.numbers.now c.args.position) (one_at c.args.pool.now c.args.graph.numbers.now c.loop-alloc.position) (other_at c.args.pool.now c.args.graph.numbers.now c.args.position) c.args.found.now.items c.loop-alloc.found.items c.take_turn.new.found.items c.loop-alloc.invariant.found
    (subst (λ y. AreFound c.args.pool.now c.args.graph.nodes.now c.args.graph.links.now c.args.graph.numbers.now c.args.before (one_at c.args.pool.now c.args.graph.numbers.now c.loop-alloc.position) y c.loop-alloc.found.items c.take_turn.new.found.items) c.loop-alloc.invariant.same found)

pub differences-loop-alloc-preserved : goal.differences-loop-alloc-preserved
differences-loop-alloc-preserved t c =
    let turn : IsTurn c.args.pool.now c.args.graph.nodes.now c.args.graph.links.now c.args.graph.numbers.now c.args.before c.loop-alloc.position c.loop-alloc.found.items c.take_turn.new.found.items c.in_ok-next.field-0 = c.in_ok-next.ensures in
    let next = subst (IsTurn c.args.pool.now c.args.graph.nodes.now c.args.graph.links.now c.args.graph.numbers.now c.args.before c.loop-alloc.position c.loop-alloc.found.items c.take_turn.new.found.items) c.in-Some.is turn in
    record {
      at = next.at;
      linked = next.linked;
      less = omega (arith, next.less, c.loop-alloc.invariant.less);
      found = found_then c.args.pool.now c.args.graph.nodes.now c.args.graph.links.now c.args.graph.numbers.now c.args.before (one_at c.args.pool.now c.args.graph.numbers.now c.args.position) (one_at c.args.pool.now c.args.graph.numbers.now c.loop-alloc.position) (one_at c.args.pool.now c.args.graph.numbers.now c.in-Some.next) c.args.found.now.items c.loop-alloc.found.items c.take_turn.new.found.items c.loop-alloc.invariant.found next.found;
      same = next.same ∙ c.loop-alloc.invariant.same;
    }

pub parts-two-requires : goal.parts-two-requires
parts-two-requires t c = (
  omega (arith, c.decreases),
  (
    c.requires.graph,
    (
      c.requires.history,
      pair_two c.args.pool.now c.args.graph.nodes.now c.args.graph.links.now c.args.graph.numbers.now c.requires.graph c.args.before c.args.position c.one_number.ensures c.requires.position c.requires.differ c.requires.alike _ c.node_of-one.result c.node_of-other.result c.in-Two.head c.in-Two.one c.in-Two.other c.node_of-one.ensures c.node_of-other.ensures c.in-Two.ensures,
    ),
  ),
)

pub parts-three-requires : goal.parts-three-requires
parts-three-requires t c = (
  omega (arith, c.decreases),
  (
    c.requires.graph,
    (
      c.requires.history,
      pair_three c.args.pool.now c.args.graph.nodes.now c.args.graph.links.now c.args.graph.numbers.now c.requires.graph c.args.before c.args.position c.one_number.ensures c.requires.position c.requires.differ c.requires.alike _ c.node_of-one.result c.node_of-other.result c.in-Three.head c.in-Three.one c.in-Three.other c.node_of-one.ensures c.node_of-other.ensures c.in-Three.ensures,
    ),
  ),
)

pub parts-returns-in_ok-next-in-One : goal.parts-returns-in_ok-next-in-One
parts-returns-in_ok-next-in-One t c =
    one_next c.args.pool.now c.args.graph.nodes.now c.args.graph.links.now c.args.graph.numbers.now c.args.before c.args.position c.in_ok-next-in-One.next c.in-One.head c.in-One.a c.in-One.x c.args.found.now.items c.args.found.now.items
    (pair_one c.args.pool.now c.args.graph.nodes.now c.args.graph.links.now c.args.graph.numbers.now c.requires.graph c.args.before c.args.position c.one_number.ensures c.requires.position c.requires.differ c.requires.alike _ c.node_of-one.result c.node_of-other.result c.in-One.head c.in-One.a c.in-One.x c.node_of-one.ensures c.node_of-other.ensures c.in-One.ensures)
    (step_read c.args.position.way.items c.as_slice.result.now (Only c.in-One.head) (Only c.in-One.head) c.in-One.a c.in-One.x c.in_ok-next-in-One.next c.as_slice.ensures.value refl c.in_ok-next-in-One.ensures) refl

pub parts-returns-in-Unlike : goal.parts-returns-in-Unlike
parts-returns-in-Unlike t c =
    absurd (pair_unlike c.args.pool.now c.args.graph.nodes.now c.args.graph.links.now c.args.graph.numbers.now c.requires.graph c.args.before c.args.position c.one_number.ensures c.requires.position c.requires.differ c.requires.alike _ c.node_of-one.result c.node_of-other.result c.node_of-one.ensures c.node_of-other.ensures c.in-Unlike.ensures)

pub take_turn-parts-requires : goal.take_turn-parts-requires
take_turn-parts-requires t c = (
  omega (arith, c.decreases),
  (
    c.requires.graph,
    (
      c.requires.history,
      (
        c.requires.position,
        (
          c.requires.differ,
          tied_alike c.args.pool.now c.args.graph.nodes.now c.args.graph.links.now c.args.graph.numbers.now c.requires.graph c.args.before c.args.position c.as_slice.result.now c.number_of-number.result c.requires.position c.requires.linked c.requires.differ c.as_slice.ensures.value c.number_of-number.ensures (when_false _ _ c.in_ok-loose.loose c.if-loose.false c.in_ok-loose.ensures),
        ),
      ),
    ),
  ),
)

pub take_turn-returns-in_ok-push_term : goal.take_turn-returns-in_ok-push_term
take_turn-returns-in_ok-push_term t c =
    loose_found c.args.pool.now c.args.graph.nodes.now c.args.graph.links.now c.args.graph.numbers.now c.requires.graph c.args.before c.args.position c.as_slice.result.now c.number_of-number.result c.args.found.now.items c.push_term.new.found.items c.requires.position c.requires.linked c.as_slice.ensures.value c.number_of-number.ensures (when_true _ _ c.in_ok-loose.loose c.if-loose.true c.in_ok-loose.ensures) c.in_ok-push_term.ensures

pub three-differences-requires : goal.three-differences-requires
three-differences-requires t c =
    let step : IsStepTo c.args.position.way.items (FirstOfThree c.args.head (number_at c.args.graph.numbers.now c.args.one.1) (number_at c.args.graph.numbers.now c.args.one.2)) c.args.one.0 c.args.other.0 c.in_ok-first.first = step_read c.args.position.way.items c.as_slice-way.result.now (FirstOfThree c.args.head (number_at c.args.graph.numbers.now c.args.one.1) (number_at c.args.graph.numbers.now c.args.one.2)) (FirstOfThree c.args.head c.number_of-b.result c.number_of-c.result) c.args.one.0 c.args.other.0 c.in_ok-first.first c.as_slice-way.ensures.value (λ i. FirstOfThree c.args.head (c.number_of-b.ensures i) (c.number_of-c.ensures i)) c.in_ok-first.ensures in
    let less = three_less c.args.pool.now c.args.graph.nodes.now c.args.graph.links.now c.args.graph.numbers.now c.args.before c.args.position c.args.head c.args.one c.args.other c.requires.three (FirstOfThree c.args.head (number_at c.args.graph.numbers.now c.args.one.1) (number_at c.args.graph.numbers.now c.args.one.2)) c.in_ok-first.first step in (
      omega (arith, c.decreases, less),
      (
        c.requires.graph,
        (
          c.requires.history,
          (
            three_first c.args.pool.now c.args.graph.nodes.now c.args.graph.links.now c.args.graph.numbers.now c.args.before c.args.position c.args.head c.args.one c.args.other c.requires.three c.in_ok-first.first step,
            three_linked c.args.pool.now c.args.graph.nodes.now c.args.graph.links.now c.args.graph.numbers.now c.args.before c.args.position c.args.head c.args.one c.args.other c.requires.three (FirstOfThree c.args.head (number_at c.args.graph.numbers.now c.args.one.1) (number_at c.args.graph.numbers.now c.args.one.2)) c.in_ok-first.first step,
          ),
        ),
      ),
    )

pub three-differences-requires-2 : goal.three-differences-requires-2
three-differences-requires-2 t c =
    let step : IsStepTo c.args.position.way.items (SecondOfThree c.args.head (number_at c.args.graph.numbers.now c.args.other.0) (number_at c.args.graph.numbers.now c.args.one.2)) c.args.one.1 c.args.other.1 c.in_ok-second.second = step_read c.args.position.way.items c.as_slice-way.result.now (SecondOfThree c.args.head (number_at c.args.graph.numbers.now c.args.other.0) (number_at c.args.graph.numbers.now c.args.one.2)) (SecondOfThree c.args.head c.number_of-x.result c.number_of-c.result) c.args.one.1 c.args.other.1 c.in_ok-second.second c.as_slice-way.ensures.value (λ i. SecondOfThree c.args.head (c.number_of-x.ensures i) (c.number_of-c.ensures i)) c.in_ok-second.ensures in
    let less = three_second_less c.args.pool.now c.args.graph.nodes.now c.args.graph.links.now c.args.graph.numbers.now c.args.before c.args.position c.args.head c.args.one c.args.other c.requires.three (SecondOfThree c.args.head (number_at c.args.graph.numbers.now c.args.other.0) (number_at c.args.graph.numbers.now c.args.one.2)) c.in_ok-second.second step in (
      omega (arith, c.decreases, less),
      (
        c.requires.graph,
        (
          c.requires.history,
          (
            three_second c.args.pool.now c.args.graph.nodes.now c.args.graph.links.now c.args.graph.numbers.now c.args.before c.args.position c.args.head c.args.one c.args.other c.requires.three c.in_ok-second.second step,
            three_second_linked c.args.pool.now c.args.graph.nodes.now c.args.graph.links.now c.args.graph.numbers.now c.args.before c.args.position c.args.head c.args.one c.args.other c.requires.three (SecondOfThree c.args.head (number_at c.args.graph.numbers.now c.args.other.0) (number_at c.args.graph.numbers.now c.args.one.2)) c.in_ok-second.second step,
          ),
        ),
      ),
    )

pub three-returns : goal.three-returns
three-returns t c =
    let first : IsStepTo c.args.position.way.items (FirstOfThree c.args.head (number_at c.args.graph.numbers.now c.args.one.1) (number_at c.args.graph.numbers.now c.args.one.2)) c.args.one.0 c.args.other.0 c.in_ok-first.first = step_read c.args.position.way.items c.as_slice-way.result.now (FirstOfThree c.args.head (number_at c.args.graph.numbers.now c.args.one.1) (number_at c.args.graph.numbers.now c.args.one.2)) (FirstOfThree c.args.head c.number_of-b.result c.number_of-c.result) c.args.one.0 c.args.other.0 c.in_ok-first.first c.as_slice-way.ensures.value (λ i. FirstOfThree c.args.head (c.number_of-b.ensures i) (c.number_of-c.ensures i)) c.in_ok-first.ensures in
    let second : IsStepTo c.args.position.way.items (SecondOfThree c.args.head (number_at c.args.graph.numbers.now c.args.other.0) (number_at c.args.graph.numbers.now c.args.one.2)) c.args.one.1 c.args.other.1 c.in_ok-second.second = step_read c.args.position.way.items c.as_slice-way.result.now (SecondOfThree c.args.head (number_at c.args.graph.numbers.now c.args.other.0) (number_at c.args.graph.numbers.now c.args.one.2)) (SecondOfThree c.args.head c.number_of-x.result c.number_of-c.result) c.args.one.1 c.args.other.1 c.in_ok-second.second c.as_slice-way.ensures.value (λ i. SecondOfThree c.args.head (c.number_of-x.ensures i) (c.number_of-c.ensures i)) c.in_ok-second.ensures in
    let third : IsStepTo c.args.position.way.items (ThirdOfThree c.args.head (number_at c.args.graph.numbers.now c.args.other.0) (number_at c.args.graph.numbers.now c.args.other.1)) c.args.one.2 c.args.other.2 c.in_ok-third.third = step_read c.args.position.way.items c.as_slice-way.result.now (ThirdOfThree c.args.head (number_at c.args.graph.numbers.now c.args.other.0) (number_at c.args.graph.numbers.now c.args.other.1)) (ThirdOfThree c.args.head c.number_of-x.result c.number_of-y.result) c.args.one.2 c.args.other.2 c.in_ok-third.third c.as_slice-way.ensures.value (λ i. ThirdOfThree c.args.head (c.number_of-x.ensures i) (c.number_of-y.ensures i)) c.in_ok-third.ensures in
    three_next c.args.pool.now c.args.graph.nodes.now c.args.graph.links.now c.args.graph.numbers.now c.args.before c.args.position c.args.head c.args.one c.args.other c.requires.three c.in_ok-first.first c.in_ok-second.second c.in_ok-third.third c.args.found.now.items c.differences.new.found.items c.differences-2.new.found.items first
    c.in_ok-differences.ensures second c.in_ok-differences-2.ensures third

pub two-differences-requires : goal.two-differences-requires
two-differences-requires t c =
    let step : IsStepTo c.args.position.way.items (FirstOfTwo c.args.head (number_at c.args.graph.numbers.now c.args.one.1)) c.args.one.0 c.args.other.0 c.in_ok-first.first = step_read c.args.position.way.items c.as_slice-way.result.now (FirstOfTwo c.args.head (number_at c.args.graph.numbers.now c.args.one.1)) (FirstOfTwo c.args.head c.number_of-rest.result) c.args.one.0 c.args.other.0 c.in_ok-first.first c.as_slice-way.ensures.value (λ i. FirstOfTwo c.args.head (c.number_of-rest.ensures i)) c.in_ok-first.ensures in
    let less = two_less c.args.pool.now c.args.graph.nodes.now c.args.graph.links.now c.args.graph.numbers.now c.args.before c.args.position c.args.head c.args.one c.args.other c.requires.two c.in_ok-first.first step in (
      omega (arith, c.decreases, less),
      (
        c.requires.graph,
        (
          c.requires.history,
          (
            two_first c.args.pool.now c.args.graph.nodes.now c.args.graph.links.now c.args.graph.numbers.now c.args.before c.args.position c.args.head c.args.one c.args.other c.requires.two c.in_ok-first.first step,
            two_linked c.args.pool.now c.args.graph.nodes.now c.args.graph.links.now c.args.graph.numbers.now c.args.before c.args.position c.args.head c.args.one c.args.other c.requires.two (FirstOfTwo c.args.head (number_at c.args.graph.numbers.now c.args.one.1)) c.in_ok-first.first step,
          ),
        ),
      ),
    )

pub two-returns : goal.two-returns
two-returns t c =
    let first : IsStepTo c.args.position.way.items (FirstOfTwo c.args.head (number_at c.args.graph.numbers.now c.args.one.1)) c.args.one.0 c.args.other.0 c.in_ok-first.first = step_read c.args.position.way.items c.as_slice-way.result.now (FirstOfTwo c.args.head (number_at c.args.graph.numbers.now c.args.one.1)) (FirstOfTwo c.args.head c.number_of-rest.result) c.args.one.0 c.args.other.0 c.in_ok-first.first c.as_slice-way.ensures.value (λ i. FirstOfTwo c.args.head (c.number_of-rest.ensures i)) c.in_ok-first.ensures in
    let second : IsStepTo c.args.position.way.items (SecondOfTwo c.args.head (number_at c.args.graph.numbers.now c.args.other.0)) c.args.one.1 c.args.other.1 c.in_ok-second.second = step_read c.args.position.way.items c.as_slice-way.result.now (SecondOfTwo c.args.head (number_at c.args.graph.numbers.now c.args.other.0)) (SecondOfTwo c.args.head c.number_of-left.result) c.args.one.1 c.args.other.1 c.in_ok-second.second c.as_slice-way.ensures.value (λ i. SecondOfTwo c.args.head (c.number_of-left.ensures i)) c.in_ok-second.ensures in
    two_next c.args.pool.now c.args.graph.nodes.now c.args.graph.links.now c.args.graph.numbers.now c.args.before c.args.position c.args.head c.args.one c.args.other c.requires.two c.in_ok-first.first c.in_ok-second.second c.args.found.now.items c.differences.new.found.items first
    c.in_ok-differences.ensures second
