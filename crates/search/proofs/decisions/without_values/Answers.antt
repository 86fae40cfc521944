use Rattle.certificates.specs.Due.{IsNotClosed}
use Rattle.certificates.specs.ProofTraces.{NothingEarly}
use Rattle.search.specs.Decisions.{HasRoom, IsLevel, NothingPlain}
use Rattle.search.proofs.ApplicationLemmas.{over_stays, fact_stays, shaped_fact_stays, decided_back, ok_map, at_none}
use Rattle.search.proofs.decisions.without_values.Goals as goal

pub after_plain-requires-clause-over : goal.after_plain-requires-clause-over
after_plain-requires-clause-over g c = over_stays c.args.pool.now c.plain.new.pool c.plain.ensures.extends c.args.branch.now c.requires.over

pub after_plain-requires-clause-room : goal.after_plain-requires-clause-room
after_plain-requires-clause-room g c = fact_stays c.args.pool.now c.plain.new.pool c.plain.ensures.extends HasRoom c.args.branch.now c.requires.over c.requires.room

pub after_plain-requires-clause-level : goal.after_plain-requires-clause-level
after_plain-requires-clause-level g c = fact_stays c.args.pool.now c.plain.new.pool c.plain.ensures.extends IsLevel c.args.branch.now c.requires.over c.requires.level

pub after_plain-requires-clause-early : goal.after_plain-requires-clause-early
after_plain-requires-clause-early g c = shaped_fact_stays c.args.pool.now c.plain.new.pool c.plain.ensures.extends c.args.branch.now c.requires.over (g.D.Deciders.shapes c.args.deciders.now) (g.D.Deciders.shapes c.plain.new.self) c.in_ok-extension.ensures.shapes NothingEarly (c.requires.early)

pub after_plain-requires-clause-closed : goal.after_plain-requires-clause-closed
after_plain-requires-clause-closed g c = fact_stays c.args.pool.now c.plain.new.pool c.plain.ensures.extends IsNotClosed c.args.branch.now c.requires.over (c.requires.closed)

pub after_plain-requires-clause-plain : goal.after_plain-requires-clause-plain
after_plain-requires-clause-plain g c = shaped_fact_stays c.args.pool.now c.plain.new.pool c.plain.ensures.extends c.args.branch.now c.requires.over (g.D.Deciders.shapes c.args.deciders.now) (g.D.Deciders.shapes c.plain.new.self) c.in_ok-extension.ensures.shapes NothingPlain (at_none c.in_ok-extension.field-0 _ _ c.in-None.is c.in_ok-extension.ensures.due)

pub returns-in-None-clause-decided : goal.returns-in-None-clause-decided
returns-in-None-clause-decided g c = ok_map c.after_plain.result _ _ (decided_back c.args.pool.now c.plain.new.pool c.after_plain.new.pool c.plain.ensures.extends c.args.branch.now c.requires.over (g.D.Deciders.shapes c.args.deciders.now) (g.D.Deciders.shapes c.plain.new.self) c.in_ok-extension.ensures.shapes) c.after_plain.ensures.decided
