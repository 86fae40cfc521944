use Rattle.tableau.proofs.StandLemmas.{shallow_at, too_deep_at}
use Rattle.closing_rules.proofs.class_closings.depth.is_shallow.Goals as goal

pub depth-requires : goal.depth-requires
depth-requires c = c.requires.within

pub returns-then-depth-gt-MOST_DEPTH : goal.returns-then-depth-gt-MOST_DEPTH
returns-then-depth-gt-MOST_DEPTH c = record { deep = too_deep_at c.args.pool.now c.args.formula c.depth.result c.requires c.depth.ensures c.if-depth-gt-MOST_DEPTH.true }

pub returns : goal.returns
returns c = shallow_at c.args.pool.now c.args.formula c.depth.result c.requires c.depth.ensures c.if-depth-gt-MOST_DEPTH.false
