use Rattle.axiom_instances.proofs.TemplateLemmas.{making_here, making_next, making_within, making_parts, making_end, making_last}
use Rattle.axiom_instances.proofs.template.make.Goals as goal

pub renumber-placed-requires : goal.renumber-placed-requires
renumber-placed-requires c =
    rw c.deref.ensures.value (making_within (making_here c.loop-node.node-index _ c.loop-node-test.true c.loop-node.invariant))

pub insert-requires : goal.insert-requires
insert-requires c =
    rw (c.renumber-placed.ensures, c.deref.ensures.value) (making_parts (making_here c.loop-node.node-index _ c.loop-node-test.true c.loop-node.invariant))

pub loop-node-preserved : goal.loop-node-preserved
loop-node-preserved c =
    let here = making_here c.loop-node.node-index _ c.loop-node-test.true c.loop-node.invariant in
    let made = rw (c.renumber-placed.ensures, c.deref.ensures.value) at c.in_ok-insert.ensures.is in
    rw c.in_ok-push.ensures.items (making_next here c.in_ok-insert.ensures.extends made)

pub returns-clause-are : goal.returns-clause-are
returns-clause-are c =
    making_last (making_end c.loop-node.node-index c.loop-node-test.false c.loop-node.invariant)
