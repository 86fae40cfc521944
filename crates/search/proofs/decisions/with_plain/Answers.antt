use Rattle.certificates.specs.ProofTraces.{IsLate}
use Rattle.search.specs.Decisions.{HasRoom, IsLevel, NothingPlain}
use Rattle.search.proofs.ApplicationLemmas.{over_stays, fact_stays, shaped_fact_stays, decided_back, ok_map, at_none}
use Rattle.search.proofs.decisions.with_plain.Goals as goal

pub after_rows-requires-clause-over : goal.after_rows-requires-clause-over
after_rows-requires-clause-over g c = over_stays c.args.pool.now c.plain.new.pool c.plain.ensures.extends c.args.branch.now c.requires.over

pub after_rows-requires-clause-room : goal.after_rows-requires-clause-room
after_rows-requires-clause-room g c = fact_stays c.args.pool.now c.plain.new.pool c.plain.ensures.extends HasRoom c.args.branch.now c.requires.over c.requires.room

pub after_rows-requires-clause-level : goal.after_rows-requires-clause-level
after_rows-requires-clause-level g c = fact_stays c.args.pool.now c.plain.new.pool c.plain.ensures.extends IsLevel c.args.branch.now c.requires.over c.requires.level

pub after_rows-requires-clause-late : goal.after_rows-requires-clause-late
after_rows-requires-clause-late g c = shaped_fact_stays c.args.pool.now c.plain.new.pool c.plain.ensures.extends c.args.branch.now c.requires.over (g.D.Deciders.shapes c.args.deciders.now) (g.D.Deciders.shapes c.plain.new.self) c.in_ok-extension.ensures.shapes IsLate (c.requires.late)

pub after_rows-requires-clause-plain : goal.after_rows-requires-clause-plain
after_rows-requires-clause-plain g c = shaped_fact_stays c.args.pool.now c.plain.new.pool c.plain.ensures.extends c.args.branch.now c.requires.over (g.D.Deciders.shapes c.args.deciders.now) (g.D.Deciders.shapes c.plain.new.self) c.in_ok-extension.ensures.shapes NothingPlain (at_none c.in_ok-extension.field-0 _ _ c.in-None.is c.in_ok-extension.ensures.due)

pub returns-in-None-clause-decided : goal.returns-in-None-clause-decided
returns-in-None-clause-decided g c = ok_map c.after_rows.result _ _ (decided_back c.args.pool.now c.plain.new.pool c.after_rows.new.pool c.plain.ensures.extends c.args.branch.now c.requires.over (g.D.Deciders.shapes c.args.deciders.now) (g.D.Deciders.shapes c.plain.new.self) c.in_ok-extension.ensures.shapes) c.after_rows.ensures.decided
