use Rattle.std.proofs.Common.{◌+◌, length, arith}
use Rattle.body_types.proofs.Dropping.{dropped_more, dropped_all, all_below}
use Rattle.body_types.proofs.code.dropped.dropped_variables.Goals as goal

pub loop-index-preserved : goal.loop-index-preserved
loop-index-preserved c = record {
  are = dropped_more c.args.body.now.nodes c.loop-index.index c.node.result.now c.loop-index.dropped.items c.add_dropped.new.dropped.items c.node.ensures.node c.loop-index.invariant.are c.in_ok-add_dropped.ensures.are;
  within = all_below c.loop-index.index (c.loop-index.index + 1) c.add_dropped.new.dropped.items (omega arith) c.in_ok-add_dropped.ensures.within;
}

pub returns-clause-are : goal.returns-clause-are
returns-clause-are c = dropped_all c.args.body.now.nodes c.loop-index.index c.loop-index.dropped.items (omega arith) c.loop-index.invariant.are

pub returns-clause-within : goal.returns-clause-within
returns-clause-within c = all_below c.loop-index.index (length c.args.body.now.nodes) c.loop-index.dropped.items (omega arith) c.loop-index.invariant.within
