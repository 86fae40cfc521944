use Rattle.tableau.proofs.LogLemmas.{indexed_wide, indexed_written}
use Rattle.tableau.proofs.log.Log.write.Goals as goal

pub invariant_of-self-in_err-push : goal.invariant_of-self-in_err-push
invariant_of-self-in_err-push c = indexed_wide c.self.inside.changes.items _ c.self.inside.values.items _ c.in_err-push.ensures.items c.widen.ensures.wider c.self.invariant

pub invariant_of-self-2 : goal.invariant_of-self-2
invariant_of-self-2 c =
    indexed_written c.self.inside.changes.items _ c.self.inside.values.items _ c.args.number c.args.value c.args.limit c.index-before.result.now c.requires c.in_ok-widen.ensures.long c.widen.ensures.wider c.self.invariant c.index-before.ensures c.in_ok-push.ensures.items
