use Rattle.resolution.proofs.AroundLaws.{numbered_more}
use Rattle.resolution.proofs.clauses.around.enter_names.Goals as goal

pub loop-number-preserved : goal.loop-number-preserved
loop-number-preserved c = numbered_more c.args.kind c.args.into.now c.loop-number.into c.enter.new.self c.args.names.now c.loop-number.number c.index-names-number.result c.in_ok-name.name c.meaning_of-meaning.result c.loop-number-test.true c.index-names-number.is c.in_ok-name.ensures c.meaning_of-meaning.ensures c.loop-number.invariant c.in_ok-enter.ensures.ok
