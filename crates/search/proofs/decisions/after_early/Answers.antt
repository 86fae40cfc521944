use Rattle.tableau.specs.PoolBranches.{branch_in}
use Rattle.certificates.specs.Due.{IsNotClosed}
use Rattle.certificates.specs.ProofTraces.{NothingEarly}
use Rattle.search.specs.Decisions.{HasRoom, IsLevel, ShowsClosing}
use Rattle.search.proofs.ApplicationLemmas.{over_stays, fact_stays, shaped_fact_stays, decided_back, ok_map}
use Rattle.search.proofs.decisions.after_early.Goals as goal
use Rattle.std.proofs.Common.{subst}

pub after_closing-requires-clause-over : goal.after_closing-requires-clause-over
after_closing-requires-clause-over g c = over_stays c.args.pool.now c.closing.new.pool c.closing.ensures.extends c.args.branch.now c.requires.over

pub after_closing-requires-clause-room : goal.after_closing-requires-clause-room
after_closing-requires-clause-room g c = fact_stays c.args.pool.now c.closing.new.pool c.closing.ensures.extends HasRoom c.args.branch.now c.requires.over c.requires.room

pub after_closing-requires-clause-level : goal.after_closing-requires-clause-level
after_closing-requires-clause-level g c = fact_stays c.args.pool.now c.closing.new.pool c.closing.ensures.extends IsLevel c.args.branch.now c.requires.over c.requires.level

pub after_closing-requires-clause-early : goal.after_closing-requires-clause-early
after_closing-requires-clause-early g c = shaped_fact_stays c.args.pool.now c.closing.new.pool c.closing.ensures.extends c.args.branch.now c.requires.over (g.D.Deciders.shapes c.args.deciders.now) (g.D.Deciders.shapes c.closing.new.self) c.in_ok-closing.ensures.shapes NothingEarly (c.requires.early)

pub after_closing-requires-clause-closed : goal.after_closing-requires-clause-closed
after_closing-requires-clause-closed g c = fact_stays c.args.pool.now c.closing.new.pool c.closing.ensures.extends IsNotClosed c.args.branch.now c.requires.over (subst (ShowsClosing (g.D.Deciders.shapes c.args.deciders.now) c.closing.new.pool (branch_in c.args.pool.now c.args.branch.now)) c.in-Open.is c.in_ok-closing.ensures.shown)

pub returns-in-Open-clause-decided : goal.returns-in-Open-clause-decided
returns-in-Open-clause-decided g c = ok_map c.after_closing.result _ _ (decided_back c.args.pool.now c.closing.new.pool c.after_closing.new.pool c.closing.ensures.extends c.args.branch.now c.requires.over (g.D.Deciders.shapes c.args.deciders.now) (g.D.Deciders.shapes c.closing.new.self) c.in_ok-closing.ensures.shapes) c.after_closing.ensures.decided

pub returns-in-TooLong-clause-decided : goal.returns-in-TooLong-clause-decided
returns-in-TooLong-clause-decided g c = subst (ShowsClosing (g.D.Deciders.shapes c.args.deciders.now) c.closing.new.pool (branch_in c.args.pool.now c.args.branch.now)) c.in-TooLong.is c.in_ok-closing.ensures.shown
