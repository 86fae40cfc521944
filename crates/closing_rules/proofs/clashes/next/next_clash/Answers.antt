use Rattle.std.proofs.Common.{arith}
use Rattle.tableau.specs.PoolBranches.{branch_in}
use Rattle.closing_rules.proofs.ClashLemmas.{known_entries, none_closed, one_more, not_closed}
use Rattle.closing_rules.proofs.clashes.next.next_clash.Goals as goal

pub entries_by_class-requires : goal.entries_by_class-requires
entries_by_class-requires c = known_entries c.args.pool.now c.one_number.ensures c.args.branch.now c.requires.over c.args.classes.now c.requires.classes

pub loop-i-init : goal.loop-i-init
loop-i-init c = none_closed (branch_in c.args.pool.now c.args.branch.now)

pub loop-i-preserved : goal.loop-i-preserved
loop-i-preserved c = one_more (branch_in c.args.pool.now c.args.branch.now) c.loop-i.i c.loop-i.invariant c.in_default.ensures

pub returns : goal.returns
returns c = not_closed c.args.pool.now c.args.branch.now c.loop-i.i (omega (arith, c.len-i-end.ensures, c.loop-i-test.false)) c.loop-i.invariant
