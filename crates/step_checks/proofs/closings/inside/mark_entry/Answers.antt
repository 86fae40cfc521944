use Rattle.std.proofs.Common.{sym, arith}
use Rattle.step_checks.proofs.MarkLemmas.{entry_marked, entry_past}
use Rattle.step_checks.proofs.closings.inside.mark_entry.Goals as goal

pub returns-in_default : goal.returns-in_default
returns-in_default c = entry_past c.args.pool.now c.args.branch.now c.args.i c.args.marks.now (sym c.in_default.ensures) c.requires.marks

pub mark-requires : goal.mark-requires
mark-requires c =
    let w = (c.requires.over.formulas c.args.i c.in-Some.entry (sym c.in-Some.ensures)).within in
    let l = c.requires.marks.as_long in
    omega (arith, w, l)

pub returns : goal.returns
returns c = entry_marked c.args.pool.now c.args.branch.now c.args.i c.args.marks.now c.mark.new.marks c.in-Some.entry (sym c.in-Some.ensures) c.mark.ensures c.requires.marks
