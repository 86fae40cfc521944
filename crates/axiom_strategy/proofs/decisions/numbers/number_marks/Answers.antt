use Rattle.std.proofs.Common.{◌∙◌, arith}
use Rattle.tableau.specs.PoolBranches.{branch_in}
use Rattle.axiom_strategy.proofs.NumberLemmas.{marks_begun, mark_same, mark_more, marks_done}
use Rattle.axiom_strategy.proofs.decisions.numbers.number_marks.Goals as goal

pub loop-i-init : goal.loop-i-init
loop-i-init c = marks_begun c.args.pool.now (branch_in c.args.pool.now c.args.branch.now) c.in_ok-marks.marks.items (c.in_ok-marks.ensures.len ∙ c.len.ensures) (λ n w. c.in_ok-marks.ensures.none n (let l = c.len.ensures in omega (arith, l, w)))

pub loop-i-preserved-in_default : goal.loop-i-preserved-in_default
loop-i-preserved-in_default c = mark_same c.args.pool.now (branch_in c.args.pool.now c.args.branch.now) c.loop-i.i c.loop-i.marks.items c.loop-i.invariant c.in_default.ensures

pub loop-i-preserved : goal.loop-i-preserved
loop-i-preserved c = mark_more c.args.pool.now (branch_in c.args.pool.now c.args.branch.now) c.one_number.ensures c.loop-i.i c.loop-i.marks.items c.in-Some.term c.loop-i.invariant c.in-Some.ensures

pub returns : goal.returns
returns c = marks_done c.args.pool.now c.args.branch.now c.loop-i.i c.loop-i.marks.items (omega (arith, c.len-i-end.ensures, c.loop-i-test.false)) c.loop-i.invariant
