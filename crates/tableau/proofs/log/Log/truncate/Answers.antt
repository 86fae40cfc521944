use Rattle.std.proofs.Common.{◌∙◌}
use Rattle.tableau.proofs.LogLemmas.{indexed_less, shorter}
use Rattle.tableau.proofs.log.Log.truncate.Goals as goal

pub loop-self-preserved-in-Some : goal.loop-self-preserved-in-Some
loop-self-preserved-in-Some c = record {
  indexed = indexed_less c.loop-self.self-inside.changes.items c.pop.new.self.items _ c.in-Some.change c.in-Some.ensures.items c.loop-self.invariant.indexed;
  same = shorter c.loop-self.self-inside.changes.items c.pop.new.self.items c.in-Some.change c.args.count c.len.result c.in-Some.ensures.items (c.len.ensures ∙ c.loop-self.self-inside.changes.ok.0) c.loop-self-test.true c.args.self.now c.loop-self.invariant.same;
}
