use Rattle.congruence_closure.proofs.EquationLemmas.{next_left, next_right, kept_next, next_apart, kept_done}
use Rattle.congruence_closure.proofs.classes.state.State.settle.Goals as goal

pub next_link-requires-clause-left : goal.next_link-requires-clause-left
next_link-requires-clause-left c = next_left _ _ _ _ _ _ _ _ c.loop-link.invariant.kept c.as_slice.result.now c.as_slice.ensures.value

pub next_link-requires-clause-right : goal.next_link-requires-clause-right
next_link-requires-clause-right c = next_right _ _ _ _ _ _ _ _ c.loop-link.invariant.kept c.as_slice.result.now c.as_slice.ensures.value

pub join-requires-clause-kept : goal.join-requires-clause-kept
join-requires-clause-kept c = kept_next _ _ _ _ _ _ _ _ c.loop-link.invariant.kept c.as_slice.result.now c.as_slice.ensures.value c.next_link.new.waiting.items c.in-Some.link c.in-Some.ensures

pub join-requires-clause-apart : goal.join-requires-clause-apart
join-requires-clause-apart c = next_apart _ _ _ _ _ _ _ _ c.loop-link.invariant.kept c.as_slice.result.now c.as_slice.ensures.value c.next_link.new.waiting.items c.in-Some.link c.in-Some.ensures

pub returns-clause-kept : goal.returns-clause-kept
returns-clause-kept c = kept_done _ _ _ _ _ _ _ _ c.loop-link.invariant.kept c.as_slice.result.now c.as_slice.ensures.value c.next_link.new.waiting.items c.in_default.ensures
