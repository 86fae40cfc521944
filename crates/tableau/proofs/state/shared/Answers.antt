use Rattle.std.proofs.Common.{◌<◌, length, arith}
use Rattle.tableau.proofs.StateLemmas.{shared_more}
use Rattle.tableau.proofs.state.shared.Goals as goal

pub loop-number-preserved : goal.loop-number-preserved
loop-number-preserved c =
    let w : c.loop-number.number < length c.args.entries.now = (let b = c.loop-number-test.true in omega (arith, b)) in
    shared_more c.args.entries.now c.args.branch.now.entries c.loop-number.number _ w c.loop-number.invariant (c.is_entry.ensures.0 c.if-not-is_entry.false)
