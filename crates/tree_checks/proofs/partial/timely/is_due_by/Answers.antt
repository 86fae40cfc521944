use Rattle.term_pool.proofs.GrowthLemmas.{extends_then}
use Rattle.tableau.proofs.PushLemmas.{over_still}
use Rattle.tree_checks.proofs.LeadLemmas.{numbers_later}
use Rattle.tree_checks.proofs.GrownTruthLemmas.{never, refuted}
use Rattle.tree_checks.proofs.StayLemmas.{due_known}
use Rattle.tree_checks.proofs.partial.timely.is_due_by.Goals as goal

pub returns-then-not-growing-clause-exact : goal.returns-then-not-growing-clause-exact
returns-then-not-growing-clause-exact c = never (λ due. refuted c.in_ok-growing.growing c.if-not-growing.true c.in_ok-growing.ensures.exact due.growing)

pub is_timely-requires-clause-over : goal.is_timely-requires-clause-over
is_timely-requires-clause-over c = over_still c.args.pool.now c.is_growing.new.pool c.is_growing.ensures.extends c.args.branch.now c.requires.over

pub is_timely-requires-clause-numbers : goal.is_timely-requires-clause-numbers
is_timely-requires-clause-numbers c = numbers_later c.args.pool.now c.is_growing.new.pool c.is_growing.ensures.extends c.args.given.now.extension c.requires.numbers

pub returns-clause-extends : goal.returns-clause-extends
returns-clause-extends c = extends_then c.is_growing.ensures.extends c.is_timely.ensures.extends

pub returns-clause-exact : goal.returns-clause-exact
returns-clause-exact c =
    due_known c.args.pool.now c.is_growing.new.pool c.is_growing.ensures.extends c.one_number.ensures c.args.branch.now c.requires.over c.args.shapes.now c.args.given.now c.requires.numbers (c.in_ok-growing.ensures.exact.0 c.if-not-growing.false) c.in_ok-known.known c.in_ok-known.ensures.exact

pub returns-in_err-known-clause-extends : goal.returns-in_err-known-clause-extends
returns-in_err-known-clause-extends c = extends_then c.is_growing.ensures.extends c.is_timely.ensures.extends
