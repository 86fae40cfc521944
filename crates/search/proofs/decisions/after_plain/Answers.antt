use Rattle.tableau.specs.PoolBranches.{branch_in}
use Rattle.certificates.specs.ProofTraces.{IsLate}
use Rattle.search.specs.Decisions.{HasRoom, IsLevel, NothingPlain, ShowsRows}
use Rattle.search.proofs.ApplicationLemmas.{over_stays, fact_stays, shaped_fact_stays, decided_back, late_by, ok_map}
use Rattle.search.proofs.decisions.after_plain.Goals as goal
use Rattle.std.proofs.Common.{subst}

pub after_rows-requires-clause-over : goal.after_rows-requires-clause-over
after_rows-requires-clause-over g c = over_stays c.args.pool.now c.rows.new.pool c.rows.ensures.extends c.args.branch.now c.requires.over

pub after_rows-requires-clause-room : goal.after_rows-requires-clause-room
after_rows-requires-clause-room g c = fact_stays c.args.pool.now c.rows.new.pool c.rows.ensures.extends HasRoom c.args.branch.now c.requires.over c.requires.room

pub after_rows-requires-clause-level : goal.after_rows-requires-clause-level
after_rows-requires-clause-level g c = fact_stays c.args.pool.now c.rows.new.pool c.rows.ensures.extends IsLevel c.args.branch.now c.requires.over c.requires.level

pub after_rows-requires-clause-late : goal.after_rows-requires-clause-late
after_rows-requires-clause-late g c = shaped_fact_stays c.args.pool.now c.rows.new.pool c.rows.ensures.extends c.args.branch.now c.requires.over (g.D.Deciders.shapes c.args.deciders.now) (g.D.Deciders.shapes c.rows.new.self) c.in_ok-rows.ensures.shapes IsLate (late_by (g.D.Deciders.shapes c.args.deciders.now) (branch_in c.args.pool.now c.args.branch.now) c.requires.early c.requires.closed (subst (ShowsRows (g.D.Deciders.shapes c.args.deciders.now) c.rows.new.pool (branch_in c.args.pool.now c.args.branch.now)) c.in-Met.is c.in_ok-rows.ensures.shown))

pub after_rows-requires-clause-plain : goal.after_rows-requires-clause-plain
after_rows-requires-clause-plain g c = shaped_fact_stays c.args.pool.now c.rows.new.pool c.rows.ensures.extends c.args.branch.now c.requires.over (g.D.Deciders.shapes c.args.deciders.now) (g.D.Deciders.shapes c.rows.new.self) c.in_ok-rows.ensures.shapes NothingPlain (c.requires.plain)

pub returns-in-Met-clause-decided : goal.returns-in-Met-clause-decided
returns-in-Met-clause-decided g c = ok_map c.after_rows.result _ _ (decided_back c.args.pool.now c.rows.new.pool c.after_rows.new.pool c.rows.ensures.extends c.args.branch.now c.requires.over (g.D.Deciders.shapes c.args.deciders.now) (g.D.Deciders.shapes c.rows.new.self) c.in_ok-rows.ensures.shapes) c.after_rows.ensures.decided

pub returns-in-TooLong-clause-decided : goal.returns-in-TooLong-clause-decided
returns-in-TooLong-clause-decided g c = subst (ShowsRows (g.D.Deciders.shapes c.args.deciders.now) c.rows.new.pool (branch_in c.args.pool.now c.args.branch.now)) c.in-TooLong.is c.in_ok-rows.ensures.shown
