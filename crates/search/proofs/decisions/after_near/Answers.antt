use Rattle.tableau.specs.PoolBranches.{branch_in}
use Rattle.certificates.specs.Due.{IsNotClosed}
use Rattle.certificates.specs.ProofTraces.{NothingEarly, IsLate}
use Rattle.search.specs.Decisions.{HasRoom, IsLevel, ShowsRows}
use Rattle.search.proofs.ApplicationLemmas.{over_stays, fact_stays, shaped_fact_stays, decided_back, late_by, ok_map}
use Rattle.std.proofs.Common.{subst}
use Rattle.search.proofs.decisions.after_near.Goals as goal

pub by_values-requires-clause-over : goal.by_values-requires-clause-over
by_values-requires-clause-over g c = over_stays c.args.pool.now c.rows.new.pool c.rows.ensures.extends c.args.branch.now c.requires.over

pub by_values-requires-clause-room : goal.by_values-requires-clause-room
by_values-requires-clause-room g c = fact_stays c.args.pool.now c.rows.new.pool c.rows.ensures.extends HasRoom c.args.branch.now c.requires.over c.requires.room

pub by_values-requires-clause-level : goal.by_values-requires-clause-level
by_values-requires-clause-level g c = fact_stays c.args.pool.now c.rows.new.pool c.rows.ensures.extends IsLevel c.args.branch.now c.requires.over c.requires.level

pub by_values-requires-clause-late : goal.by_values-requires-clause-late
by_values-requires-clause-late g c = shaped_fact_stays c.args.pool.now c.rows.new.pool c.rows.ensures.extends c.args.branch.now c.requires.over (g.D.Deciders.shapes c.args.deciders.now) (g.D.Deciders.shapes c.rows.new.self) c.in_ok-rows.ensures.shapes IsLate (late_by (g.D.Deciders.shapes c.args.deciders.now) (branch_in c.args.pool.now c.args.branch.now) c.requires.early c.requires.closed (subst (ShowsRows (g.D.Deciders.shapes c.args.deciders.now) c.rows.new.pool (branch_in c.args.pool.now c.args.branch.now)) c.in-Met.is c.in_ok-rows.ensures.shown))

pub without_values-requires-clause-over : goal.without_values-requires-clause-over
without_values-requires-clause-over g c = over_stays c.args.pool.now c.rows.new.pool c.rows.ensures.extends c.args.branch.now c.requires.over

pub without_values-requires-clause-room : goal.without_values-requires-clause-room
without_values-requires-clause-room g c = fact_stays c.args.pool.now c.rows.new.pool c.rows.ensures.extends HasRoom c.args.branch.now c.requires.over c.requires.room

pub without_values-requires-clause-level : goal.without_values-requires-clause-level
without_values-requires-clause-level g c = fact_stays c.args.pool.now c.rows.new.pool c.rows.ensures.extends IsLevel c.args.branch.now c.requires.over c.requires.level

pub without_values-requires-clause-early : goal.without_values-requires-clause-early
without_values-requires-clause-early g c = shaped_fact_stays c.args.pool.now c.rows.new.pool c.rows.ensures.extends c.args.branch.now c.requires.over (g.D.Deciders.shapes c.args.deciders.now) (g.D.Deciders.shapes c.rows.new.self) c.in_ok-rows.ensures.shapes NothingEarly (c.requires.early)

pub without_values-requires-clause-closed : goal.without_values-requires-clause-closed
without_values-requires-clause-closed g c = fact_stays c.args.pool.now c.rows.new.pool c.rows.ensures.extends IsNotClosed c.args.branch.now c.requires.over (c.requires.closed)

pub returns-in-Met-clause-decided : goal.returns-in-Met-clause-decided
returns-in-Met-clause-decided g c = ok_map c.by_values.result _ _ (decided_back c.args.pool.now c.rows.new.pool c.by_values.new.pool c.rows.ensures.extends c.args.branch.now c.requires.over (g.D.Deciders.shapes c.args.deciders.now) (g.D.Deciders.shapes c.rows.new.self) c.in_ok-rows.ensures.shapes) c.by_values.ensures.decided

pub returns-clause-decided : goal.returns-clause-decided
returns-clause-decided g c = ok_map c.without_values.result _ _ (decided_back c.args.pool.now c.rows.new.pool c.without_values.new.pool c.rows.ensures.extends c.args.branch.now c.requires.over (g.D.Deciders.shapes c.args.deciders.now) (g.D.Deciders.shapes c.rows.new.self) c.in_ok-rows.ensures.shapes) c.without_values.ensures.decided
