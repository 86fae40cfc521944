use Rattle.std.proofs.Common.{◌∙◌, arith}
use Rattle.ability_rules.proofs.Marks.{taken_all, taken_more}
use Rattle.ability_rules.proofs.required.taken.taken_of.Goals as goal

pub loop-variable-preserved : goal.loop-variable-preserved
loop-variable-preserved c = record {
  len = c.mark.ensures.len ∙ c.loop-variable.invariant.len;
  taken = taken_more c.args.body.now.nodes c.loop-variable.taken.items c.mark.new.taken.items c.loop-variable.variable c.node.result.now c.node.ensures.node c.loop-variable.invariant.len c.loop-variable.invariant.taken
      c.mark.ensures.marked;
}

pub returns : goal.returns
returns c = taken_all c.args.body.now.nodes c.loop-variable.taken.items c.loop-variable.variable (omega arith) c.loop-variable.invariant.len c.loop-variable.invariant.taken
