use Rattle.certificates.specs.Due.{IsNotClosed}
use Rattle.certificates.specs.ProofTraces.{NothingEarly}
use Rattle.search.specs.Decisions.{HasRoom, IsLevel}
use Rattle.search.proofs.ApplicationLemmas.{over_stays, fact_stays, shaped_fact_stays, decided_back, ok_map}
use Rattle.search.proofs.decisions.with_near.Goals as goal

pub after_near-requires-clause-over : goal.after_near-requires-clause-over
after_near-requires-clause-over g c = over_stays c.args.pool.now c.near.new.pool c.near.ensures.extends c.args.branch.now c.requires.over

pub after_near-requires-clause-room : goal.after_near-requires-clause-room
after_near-requires-clause-room g c = fact_stays c.args.pool.now c.near.new.pool c.near.ensures.extends HasRoom c.args.branch.now c.requires.over c.requires.room

pub after_near-requires-clause-level : goal.after_near-requires-clause-level
after_near-requires-clause-level g c = fact_stays c.args.pool.now c.near.new.pool c.near.ensures.extends IsLevel c.args.branch.now c.requires.over c.requires.level

pub after_near-requires-clause-early : goal.after_near-requires-clause-early
after_near-requires-clause-early g c = shaped_fact_stays c.args.pool.now c.near.new.pool c.near.ensures.extends c.args.branch.now c.requires.over (g.D.Deciders.shapes c.args.deciders.now) (g.D.Deciders.shapes c.near.new.self) c.in_ok-extension.ensures.shapes NothingEarly (c.requires.early)

pub after_near-requires-clause-closed : goal.after_near-requires-clause-closed
after_near-requires-clause-closed g c = fact_stays c.args.pool.now c.near.new.pool c.near.ensures.extends IsNotClosed c.args.branch.now c.requires.over (c.requires.closed)

pub returns-in-None-clause-decided : goal.returns-in-None-clause-decided
returns-in-None-clause-decided g c = ok_map c.after_near.result _ _ (decided_back c.args.pool.now c.near.new.pool c.after_near.new.pool c.near.ensures.extends c.args.branch.now c.requires.over (g.D.Deciders.shapes c.args.deciders.now) (g.D.Deciders.shapes c.near.new.self) c.in_ok-extension.ensures.shapes) c.after_near.ensures.decided
