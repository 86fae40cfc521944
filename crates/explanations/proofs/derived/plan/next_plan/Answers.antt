use Rattle.std.proofs.Common.{sym, subst, length}
use Rattle.explanations.specs.Plans.{IsOnAny, CanMark, AreMarked}
use Rattle.explanations.proofs.PlanLemmas.{can_mark, needed_next, next_found}
use Rattle.explanations.proofs.derived.plan.next_plan.Goals as goal

pub mark_all-requires : goal.mark_all-requires
mark_all-requires c =
    subst (λ ds. CanMark (length c.args.needed.now.items) (IsOnAny ds)) (sym c.as_slice-then-is_needed.ensures.value) (can_mark c.args.pool.now c.args.graph.nodes.now c.args.graph.links.now c.args.graph.numbers.now c.requires.graph c.args.number c.args.needed.now.items c.in_ok-found.found.items c.requires.needed c.in_ok-found.ensures)

pub returns-in_ok-found-clause-needed : goal.returns-in_ok-found-clause-needed
returns-in_ok-found-clause-needed c =
    needed_next c.args.pool.now c.args.graph.nodes.now c.args.graph.links.now c.args.graph.numbers.now c.requires.graph c.args.number c.args.needed.now.items c.mark_all.new.needed.items c.in_ok-found.found.items c.requires.needed c.in_ok-found.ensures
    (subst (λ ds. AreMarked (IsOnAny ds) c.args.needed.now.items c.mark_all.new.needed.items) c.as_slice-then-is_needed.ensures.value c.mark_all.ensures)

pub returns-in_ok-found-clause-plan : goal.returns-in_ok-found-clause-plan
returns-in_ok-found-clause-plan c =
    next_found c.args.pool.now c.args.graph.nodes.now c.args.graph.links.now c.args.graph.numbers.now c.requires.graph c.args.number c.args.needed.now.items c.mark_all.new.needed.items _ c.in_ok-found.ensures
    (subst (λ ds. AreMarked (IsOnAny ds) c.args.needed.now.items c.mark_all.new.needed.items) c.as_slice-then-is_needed.ensures.value c.mark_all.ensures)
