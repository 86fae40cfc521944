use Rattle.tableau.specs.PoolBranches.{branch_in}
use Rattle.certificates.specs.Due.{IsNotClosed}
use Rattle.certificates.specs.ProofTraces.{NothingEarly, IsLate}
use Rattle.search.specs.Decisions.{HasRoom, IsLevel, ShowsRows}
use Rattle.search.proofs.ApplicationLemmas.{over_stays, fact_stays, shaped_fact_stays, decided_back, late_by, ok_map}
use Rattle.std.proofs.Common.{subst}
use Rattle.search.proofs.decisions.in_haste.Goals as goal

pub in_haste_by_values-requires-clause-over : goal.in_haste_by_values-requires-clause-over
in_haste_by_values-requires-clause-over g c = over_stays c.args.pool.now c.rows.new.pool c.rows.ensures.extends c.args.branch.now c.requires.over

pub in_haste_by_values-requires-clause-room : goal.in_haste_by_values-requires-clause-room
in_haste_by_values-requires-clause-room g c = fact_stays c.args.pool.now c.rows.new.pool c.rows.ensures.extends HasRoom c.args.branch.now c.requires.over c.requires.room

pub in_haste_by_values-requires-clause-level : goal.in_haste_by_values-requires-clause-level
in_haste_by_values-requires-clause-level g c = fact_stays c.args.pool.now c.rows.new.pool c.rows.ensures.extends IsLevel c.args.branch.now c.requires.over c.requires.level

pub in_haste_by_values-requires-clause-early : goal.in_haste_by_values-requires-clause-early
in_haste_by_values-requires-clause-early g c = shaped_fact_stays c.args.pool.now c.rows.new.pool c.rows.ensures.extends c.args.branch.now c.requires.over (g.D.Deciders.shapes c.args.deciders.now) (g.D.Deciders.shapes c.rows.new.self) c.in_ok-rows.ensures.shapes NothingEarly (c.requires.early)

pub in_haste_by_values-requires-clause-closed : goal.in_haste_by_values-requires-clause-closed
in_haste_by_values-requires-clause-closed g c = fact_stays c.args.pool.now c.rows.new.pool c.rows.ensures.extends IsNotClosed c.args.branch.now c.requires.over (c.requires.closed)

pub in_haste_by_values-requires-clause-late : goal.in_haste_by_values-requires-clause-late
in_haste_by_values-requires-clause-late g c = shaped_fact_stays c.args.pool.now c.rows.new.pool c.rows.ensures.extends c.args.branch.now c.requires.over (g.D.Deciders.shapes c.args.deciders.now) (g.D.Deciders.shapes c.rows.new.self) c.in_ok-rows.ensures.shapes IsLate (late_by (g.D.Deciders.shapes c.args.deciders.now) (branch_in c.args.pool.now c.args.branch.now) c.requires.early c.requires.closed (subst (ShowsRows (g.D.Deciders.shapes c.args.deciders.now) c.rows.new.pool (branch_in c.args.pool.now c.args.branch.now)) c.in-Met.is c.in_ok-rows.ensures.shown))

pub with_near-requires-clause-over : goal.with_near-requires-clause-over
with_near-requires-clause-over g c = over_stays c.args.pool.now c.rows.new.pool c.rows.ensures.extends c.args.branch.now c.requires.over

pub with_near-requires-clause-room : goal.with_near-requires-clause-room
with_near-requires-clause-room g c = fact_stays c.args.pool.now c.rows.new.pool c.rows.ensures.extends HasRoom c.args.branch.now c.requires.over c.requires.room

pub with_near-requires-clause-level : goal.with_near-requires-clause-level
with_near-requires-clause-level g c = fact_stays c.args.pool.now c.rows.new.pool c.rows.ensures.extends IsLevel c.args.branch.now c.requires.over c.requires.level

pub with_near-requires-clause-early : goal.with_near-requires-clause-early
with_near-requires-clause-early g c = shaped_fact_stays c.args.pool.now c.rows.new.pool c.rows.ensures.extends c.args.branch.now c.requires.over (g.D.Deciders.shapes c.args.deciders.now) (g.D.Deciders.shapes c.rows.new.self) c.in_ok-rows.ensures.shapes NothingEarly (c.requires.early)

pub with_near-requires-clause-closed : goal.with_near-requires-clause-closed
with_near-requires-clause-closed g c = fact_stays c.args.pool.now c.rows.new.pool c.rows.ensures.extends IsNotClosed c.args.branch.now c.requires.over (c.requires.closed)

pub returns-in-Met-clause-decided : goal.returns-in-Met-clause-decided
returns-in-Met-clause-decided g c = ok_map c.in_haste_by_values.result _ _ (decided_back c.args.pool.now c.rows.new.pool c.in_haste_by_values.new.pool c.rows.ensures.extends c.args.branch.now c.requires.over (g.D.Deciders.shapes c.args.deciders.now) (g.D.Deciders.shapes c.rows.new.self) c.in_ok-rows.ensures.shapes) c.in_haste_by_values.ensures.decided

pub returns-clause-decided : goal.returns-clause-decided
returns-clause-decided g c = ok_map c.with_near.result _ _ (decided_back c.args.pool.now c.rows.new.pool c.with_near.new.pool c.rows.ensures.extends c.args.branch.now c.requires.over (g.D.Deciders.shapes c.args.deciders.now) (g.D.Deciders.shapes c.rows.new.self) c.in_ok-rows.ensures.shapes) c.with_near.ensures.decided
