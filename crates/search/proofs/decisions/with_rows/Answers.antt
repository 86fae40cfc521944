use Rattle.search.specs.Decisions.{HasRoom, IsLevel}
use Rattle.search.proofs.ApplicationLemmas.{over_stays, fact_stays, decided_back, ok_map}
use Rattle.search.proofs.decisions.with_rows.Goals as goal

pub with_early-requires-clause-over : goal.with_early-requires-clause-over
with_early-requires-clause-over g c = over_stays c.args.pool.now c.rows.new.pool c.rows.ensures.extends c.args.branch.now c.requires.over

pub with_early-requires-clause-room : goal.with_early-requires-clause-room
with_early-requires-clause-room g c = fact_stays c.args.pool.now c.rows.new.pool c.rows.ensures.extends HasRoom c.args.branch.now c.requires.over c.requires.room

pub with_early-requires-clause-level : goal.with_early-requires-clause-level
with_early-requires-clause-level g c = fact_stays c.args.pool.now c.rows.new.pool c.rows.ensures.extends IsLevel c.args.branch.now c.requires.over c.requires.level

pub returns-clause-decided : goal.returns-clause-decided
returns-clause-decided g c = ok_map c.with_early.result _ _ (decided_back c.args.pool.now c.rows.new.pool c.with_early.new.pool c.rows.ensures.extends c.args.branch.now c.requires.over (g.D.Deciders.shapes c.args.deciders.now) (g.D.Deciders.shapes c.rows.new.self) c.in_ok-closing.ensures.shapes) c.with_early.ensures.decided
