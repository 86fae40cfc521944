use Rattle.certificates.specs.Due.{IsNotClosed}
use Rattle.certificates.specs.ProofTraces.{NothingEarly}
use Rattle.search.specs.Decisions.{HasRoom, IsLevel}
use Rattle.search.proofs.ApplicationLemmas.{over_stays, fact_stays, shaped_fact_stays, decided_back, ok_map}
use Rattle.search.proofs.decisions.in_haste_by_values.Goals as goal

pub with_near-requires-clause-over : goal.with_near-requires-clause-over
with_near-requires-clause-over g c = over_stays c.args.pool.now c.promising.new.pool c.promising.ensures.extends c.args.branch.now c.requires.over

pub with_near-requires-clause-room : goal.with_near-requires-clause-room
with_near-requires-clause-room g c = fact_stays c.args.pool.now c.promising.new.pool c.promising.ensures.extends HasRoom c.args.branch.now c.requires.over c.requires.room

pub with_near-requires-clause-level : goal.with_near-requires-clause-level
with_near-requires-clause-level g c = fact_stays c.args.pool.now c.promising.new.pool c.promising.ensures.extends IsLevel c.args.branch.now c.requires.over c.requires.level

pub with_near-requires-clause-early : goal.with_near-requires-clause-early
with_near-requires-clause-early g c = shaped_fact_stays c.args.pool.now c.promising.new.pool c.promising.ensures.extends c.args.branch.now c.requires.over (g.D.Deciders.shapes c.args.deciders.now) (g.D.Deciders.shapes c.promising.new.self) c.in_ok-extension.ensures.shapes NothingEarly (c.requires.early)

pub with_near-requires-clause-closed : goal.with_near-requires-clause-closed
with_near-requires-clause-closed g c = fact_stays c.args.pool.now c.promising.new.pool c.promising.ensures.extends IsNotClosed c.args.branch.now c.requires.over (c.requires.closed)

pub returns-in-None-clause-decided : goal.returns-in-None-clause-decided
returns-in-None-clause-decided g c = ok_map c.with_near.result _ _ (decided_back c.args.pool.now c.promising.new.pool c.with_near.new.pool c.promising.ensures.extends c.args.branch.now c.requires.over (g.D.Deciders.shapes c.args.deciders.now) (g.D.Deciders.shapes c.promising.new.self) c.in_ok-extension.ensures.shapes) c.with_near.ensures.decided
