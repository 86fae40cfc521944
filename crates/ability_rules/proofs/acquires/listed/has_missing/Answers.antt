use Rattle.std.proofs.Common.{◌∙◌, sym, arith}
use Rattle.ability_rules.proofs.Sets.{all_in, missing_found, more_in, none_missing}
use Rattle.ability_rules.proofs.acquires.listed.has_missing.Goals as goal

pub loop-id-preserved : goal.loop-id-preserved
loop-id-preserved c =
    more_in c.args.set.now c.args.structs.now c.loop-id.id-index c.id-item.result c.loop-id-test.true c.id-item.is (sym c.has_struct-is_listed.ensures ∙ c.if-not-is_listed.false) c.loop-id.invariant

pub returns-then-not-is_listed : goal.returns-then-not-is_listed
returns-then-not-is_listed c = λ listed is.
    missing_found c.args.set.now listed c.args.structs.now c.loop-id.id-index c.id-item.result is c.loop-id-test.true c.id-item.is (sym c.has_struct-is_listed.ensures ∙ c.if-not-is_listed.true)

pub returns : goal.returns
returns c = λ listed is.
    none_missing c.args.set.now listed c.args.structs.now is (all_in c.args.set.now c.args.structs.now c.loop-id.id-index (omega arith) c.loop-id.invariant)
