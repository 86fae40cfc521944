use Rattle.std.proofs.Common.{◌<◌, ◌≤◌, length, arith}
use Rattle.std.specs.Prelude.{All}
use Rattle.linear_arith.specs.Inequality.{Inequality}
use Rattle.step_checks.specs.Sums.{HasReducedSum}
use Rattle.step_checks.proofs.CheckLemmas.{decided_true, all_more, all_end}
use Rattle.step_checks.proofs.elimination.stages.has_sums_with.Goals as goal

pub loop-i-preserved : goal.loop-i-preserved
loop-i-preserved c = λ rows s.
    let lowers = c.args.lowers.now in
    let i = c.loop-i.i in
    let l : i < length lowers = omega arith in
    let P : Inequality → Type 0 = HasReducedSum rows c.args.unknown c.args.upper.now in
    all_more P lowers i c.at.result.now l c.at.ensures ((c.in_ok-has_sum.ensures rows s).0 c.if-not-branch.false) (c.loop-i.invariant rows s)

pub returns : goal.returns
returns c = λ rows s.
    let lowers = c.args.lowers.now in
    let l : length lowers ≤ c.loop-i.i = omega arith in
    let P : Inequality → Type 0 = HasReducedSum rows c.args.unknown c.args.upper.now in
    decided_true (All P lowers) (all_end P lowers c.loop-i.i l (c.loop-i.invariant rows s))
