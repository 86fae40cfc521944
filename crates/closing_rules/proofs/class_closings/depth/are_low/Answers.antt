use Rattle.std.proofs.Common.{sym, arith}
use Rattle.search.proofs.ApplicationLemmas.{at_true, at_false}
use Rattle.closing_rules.proofs.ClassClosingsDepthLemmas.{none_low, one_more, this_low, all_low, deep_entry}
use Rattle.closing_rules.proofs.EntryLemmas.{no_entry}
use Rattle.closing_rules.proofs.class_closings.depth.are_low.Goals as goal

pub loop-i-init : goal.loop-i-init
loop-i-init c = none_low c.args.pool.now c.args.branch.now

pub is_low-requires : goal.is_low-requires
is_low-requires c = c.requires.formulas c.loop-i.i c.in-Some.entry (sym c.in-Some.ensures)

pub loop-i-preserved-in_default : goal.loop-i-preserved-in_default
loop-i-preserved-in_default c = absurd (no_entry c.args.branch.now.entries c.loop-i.i c.in_default.ensures (let b = c.loop-i-test.true in omega (arith, b, c.len-i-end.ensures)))

pub returns-then-not-is_low : goal.returns-then-not-is_low
returns-then-not-is_low c = deep_entry c.args.pool.now c.args.branch.now c.loop-i.i c.in-Some.entry (sym c.in-Some.ensures) (at_false c.is_low.result _ _ c.if-not-is_low.true c.is_low.ensures)

pub loop-i-preserved : goal.loop-i-preserved
loop-i-preserved c = one_more c.args.pool.now c.args.branch.now c.loop-i.i c.loop-i.invariant (this_low c.args.pool.now c.args.branch.now c.loop-i.i c.in-Some.entry (sym c.in-Some.ensures) (at_true c.is_low.result _ _ c.if-not-is_low.false c.is_low.ensures))

pub returns : goal.returns
returns c = all_low c.args.pool.now c.args.branch.now c.loop-i.i c.requires (omega (arith, c.len-i-end.ensures, c.loop-i-test.false)) c.loop-i.invariant
