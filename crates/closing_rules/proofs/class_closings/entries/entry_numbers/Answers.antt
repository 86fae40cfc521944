use Rattle.std.proofs.Common.{sym, arith}
use Rattle.closing_rules.proofs.EntryLemmas.{no_entry, numbers_more, all_numbers}
use Rattle.closing_rules.proofs.class_closings.entries.entry_numbers.Goals as goal

pub loop-i-init : goal.loop-i-init
loop-i-init c = c.new-numbers.ensures.items

pub loop-i-preserved-in_default : goal.loop-i-preserved-in_default
loop-i-preserved-in_default c = absurd (no_entry c.args.branch.now.entries c.loop-i.i c.in_default.ensures (let b = c.loop-i-test.true in omega (arith, b, c.len-i-end.ensures)))

pub loop-i-preserved : goal.loop-i-preserved
loop-i-preserved c = numbers_more c.args.branch.now.entries c.loop-i.i c.in-Some.entry c.loop-i.numbers.items c.push.new.self.items (sym c.in-Some.ensures) c.loop-i.invariant c.in_ok-push.ensures.items

pub returns : goal.returns
returns c = all_numbers c.args.branch.now.entries c.loop-i.i c.loop-i.numbers.items (omega (arith, c.len-i-end.ensures, c.loop-i-test.false)) c.loop-i.invariant
