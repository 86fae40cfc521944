use Rattle.search.specs.Decisions.{HasRoom, IsLevel}
use Rattle.search.proofs.ApplicationLemmas.{over_stays, fact_stays, decided_back, ok_map}
use Rattle.search.proofs.decisions.at_length.Goals as goal

pub with_rows-requires-clause-over : goal.with_rows-requires-clause-over
with_rows-requires-clause-over g c = over_stays c.args.pool.now c.closing.new.pool c.closing.ensures.extends c.args.branch.now c.requires.over

pub with_rows-requires-clause-room : goal.with_rows-requires-clause-room
with_rows-requires-clause-room g c = fact_stays c.args.pool.now c.closing.new.pool c.closing.ensures.extends HasRoom c.args.branch.now c.requires.over c.requires.room

pub with_rows-requires-clause-level : goal.with_rows-requires-clause-level
with_rows-requires-clause-level g c = fact_stays c.args.pool.now c.closing.new.pool c.closing.ensures.extends IsLevel c.args.branch.now c.requires.over c.requires.level

pub returns-in-TooLong-clause-decided : goal.returns-in-TooLong-clause-decided
returns-in-TooLong-clause-decided g c = ok_map c.with_rows.result _ _ (decided_back c.args.pool.now c.closing.new.pool c.with_rows.new.pool c.closing.ensures.extends c.args.branch.now c.requires.over (g.D.Deciders.shapes c.args.deciders.now) (g.D.Deciders.shapes c.closing.new.self) c.in_ok-closing.ensures.shapes) c.with_rows.ensures.decided
