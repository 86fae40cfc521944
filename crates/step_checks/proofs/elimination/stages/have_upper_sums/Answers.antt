use Rattle.std.proofs.Common.{◌<◌, ◌≤◌, length, arith}
use Rattle.std.specs.Prelude.{All}
use Rattle.linear_arith.specs.Inequality.{Inequality}
use Rattle.step_checks.specs.Stages.{HasUpperSums}
use Rattle.step_checks.proofs.CheckLemmas.{refused, decided_true, decided_false, all_more, all_end, at_row}
use Rattle.step_checks.proofs.elimination.stages.have_upper_sums.Goals as goal

pub loop-i-preserved : goal.loop-i-preserved
loop-i-preserved c = λ rows s.
    let uppers = c.args.uppers.now in
    let i = c.loop-i.i in
    let l : i < length uppers = omega arith in
    let P : Inequality → Type 0 = HasUpperSums rows c.args.eliminated.now c.args.unknown c.args.lowers.now in
    all_more P uppers i c.at.result.now l c.at.ensures ((c.in_ok-has_upper_sums.ensures rows s).0 c.if-not-branch.false) (c.loop-i.invariant rows s)

pub returns-then-not-branch : goal.returns-then-not-branch
returns-then-not-branch c = λ rows s.
    let uppers = c.args.uppers.now in
    let i = c.loop-i.i in
    let l : i < length uppers = omega arith in
    let P : Inequality → Type 0 = HasUpperSums rows c.args.eliminated.now c.args.unknown c.args.lowers.now in
    decided_false (All P uppers) (λ h. refused c.in_ok-has_upper_sums.field-0 (P c.at.result.now) c.if-not-branch.true (c.in_ok-has_upper_sums.ensures rows s) (at_row P uppers i c.at.result.now l c.at.ensures h))

pub returns : goal.returns
returns c = λ rows s.
    let uppers = c.args.uppers.now in
    let l : length uppers ≤ c.loop-i.i = omega arith in
    let P : Inequality → Type 0 = HasUpperSums rows c.args.eliminated.now c.args.unknown c.args.lowers.now in
    decided_true (All P uppers) (all_end P uppers c.loop-i.i l (c.loop-i.invariant rows s))
