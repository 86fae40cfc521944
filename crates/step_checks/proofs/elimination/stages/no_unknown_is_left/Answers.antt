use Rattle.std.proofs.Common.{◌<◌, ◌≤◌, length, arith}
use Rattle.step_checks.specs.Given.{HasNoneLeft, NoUnknownIsLeft}
use Rattle.step_checks.proofs.CheckLemmas.{decided_true, all_more, all_end, none_left}
use Rattle.step_checks.proofs.elimination.stages.no_unknown_is_left.Goals as goal

pub loop-i-preserved : goal.loop-i-preserved
loop-i-preserved c =
    let rows = c.args.rows.now in
    let i = c.loop-i.i in
    let l : i < length rows = omega arith in
    all_more (HasNoneLeft c.args.unknowns.now) rows i c.at.result.now l c.at.ensures (c.has_none_left.ensures.0 c.if-not-has_none_left.false) c.loop-i.invariant

pub returns : goal.returns
returns c =
    let rows = c.args.rows.now in
    let l : length rows ≤ c.loop-i.i = omega arith in
    decided_true (NoUnknownIsLeft rows c.args.unknowns.now) (none_left rows c.args.unknowns.now (all_end (HasNoneLeft c.args.unknowns.now) rows c.loop-i.i l c.loop-i.invariant))
