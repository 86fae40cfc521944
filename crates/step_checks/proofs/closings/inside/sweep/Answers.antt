use Rattle.std.proofs.Common.{arith}
use Rattle.step_checks.proofs.MarkLemmas.{has_room, sweep_bare, sweep_marked}
use Rattle.step_checks.proofs.closings.inside.sweep.Goals as goal

pub returns-then-not-marks-number : goal.returns-then-not-marks-number
returns-then-not-marks-number c = λ d h. sweep_bare c.args.pool.now d c.args.marks.now c.args.number h c.if-not-marks-number.true

pub returns-in_default : goal.returns-in_default
returns-in_default c = λ d h. absurd (let w = c.in_default.ensures in let v = c.requires.within in omega (arith, w, v))

pub mark_parts-requires : goal.mark_parts-requires
mark_parts-requires c = has_room c.args.pool.now c.args.marks.now c.args.number c.in-Some.node c.in-Some.ensures c.requires.as_long

pub returns : goal.returns
returns c = λ d h. sweep_marked c.args.pool.now d c.args.marks.now c.args.number h c.mark_parts.new.marks c.in-Some.node c.in-Some.ensures c.if-not-marks-number.false c.mark_parts.ensures
