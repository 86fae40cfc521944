use Rattle.std.proofs.Common.{sym, ap, ◌∙◌}
use Rattle.std.specs.Prelude.{slice_get}
use Rattle.ematching.proofs.HeadLemmas.{index_more}
use Rattle.ematching.proofs.heads.HeadIndex.grow.Goals as goal

pub loop-node-preserved : goal.loop-node-preserved
loop-node-preserved c =
    index_more c.args.pool.now c.loop-node.self c.add.new.self c.in-Some.node (ap (slice_get c.args.pool.now) (sym (c.len.ensures ∙ c.loop-node.self.before.ok.0)) ∙ c.in-Some.ensures.found) c.loop-node.invariant c.in_ok-add.ensures
