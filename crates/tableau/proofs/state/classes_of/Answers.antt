use Rattle.std.proofs.Common.{arith}
use Rattle.tableau.proofs.StateLemmas.{number_in, put_more}
use Rattle.tableau.proofs.state.classes_of.Goals as goal

pub loop-entry-init : goal.loop-entry-init
loop-entry-init c = (c.new-classes.ensures.over c.args.pool.now, c.new-classes.ensures.inside c.args.pool.now, c.new-classes.ensures.entries)

pub with_entry-requires-clause-within : goal.with_entry-requires-clause-within
with_entry-requires-clause-within c = (number_in c.args.pool.now c.args.entries.now c.loop-entry.entry-index _ c.requires (let b = c.loop-entry-test.true in omega (arith, b))).within

pub loop-entry-preserved : goal.loop-entry-preserved
loop-entry-preserved c = (
  c.in_ok-classes.ensures.over,
  c.in_ok-classes.ensures.inside c.loop-entry.invariant.1,
  put_more c.args.entries.now c.loop-entry.entry-index _ c.loop-entry.classes.entries c.in_ok-classes.classes.entries (let b = c.loop-entry-test.true in omega (arith, b)) c.loop-entry.invariant.2 c.in_ok-classes.ensures.entries,
)
