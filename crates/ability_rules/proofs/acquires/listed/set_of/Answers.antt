use Rattle.std.proofs.Common.{arith}
use Rattle.ability_rules.proofs.Sets.{no_structs, set_all, set_more}
use Rattle.ability_rules.proofs.acquires.listed.set_of.Goals as goal

pub loop-id-init : goal.loop-id-init
loop-id-init c = no_structs c.new-set.result c.new-set.ensures

pub loop-id-preserved : goal.loop-id-preserved
loop-id-preserved c =
    set_more c.loop-id.set c.put.new.self c.args.structs.now c.loop-id.id-index c.id-item.result c.in_ok-copy.copy c.in_ok-put.field-0 c.loop-id.invariant c.loop-id-test.true c.id-item.is c.in_ok-copy.ensures
    c.in_ok-put.ensures.new c.in_ok-put.ensures.put

pub returns : goal.returns
returns c = set_all c.loop-id.set c.args.structs.now c.loop-id.id-index (omega arith) c.loop-id.invariant
