use Rattle.axiom_instances.proofs.FieldLemmas.{parts_first, parts_next, parts_last}
use Rattle.axiom_instances.proofs.structs.part_numbers.Goals as goal

pub loop-first-init : goal.loop-first-init
loop-first-init c = rw c.new-numbers.ensures.items (parts_first c.args.pool.now c.args.parts)

pub loop-first-preserved : goal.loop-first-preserved
loop-first-preserved c =
    rw c.in_ok-push.ensures.items (parts_next {p = (c.in-Some.first, c.in-Some.rest)} c.loop-first.invariant c.in-Some.ensures)

pub returns : goal.returns
returns c = parts_last c.loop-first.invariant c.in_default.ensures
