use Rattle.certificates.specs.ProofTraces.{NothingEarly}
use Rattle.search.specs.Decisions.{HasRoom, IsLevel}
use Rattle.search.proofs.ApplicationLemmas.{over_stays, fact_stays, shaped_fact_stays, decided_back, ok_map, at_none}
use Rattle.search.proofs.decisions.with_early.Goals as goal

pub after_early-requires-clause-over : goal.after_early-requires-clause-over
after_early-requires-clause-over g c = over_stays c.args.pool.now c.early.new.pool c.early.ensures.extends c.args.branch.now c.requires.over

pub after_early-requires-clause-room : goal.after_early-requires-clause-room
after_early-requires-clause-room g c = fact_stays c.args.pool.now c.early.new.pool c.early.ensures.extends HasRoom c.args.branch.now c.requires.over c.requires.room

pub after_early-requires-clause-level : goal.after_early-requires-clause-level
after_early-requires-clause-level g c = fact_stays c.args.pool.now c.early.new.pool c.early.ensures.extends IsLevel c.args.branch.now c.requires.over c.requires.level

pub after_early-requires-clause-early : goal.after_early-requires-clause-early
after_early-requires-clause-early g c = shaped_fact_stays c.args.pool.now c.early.new.pool c.early.ensures.extends c.args.branch.now c.requires.over (g.D.Deciders.shapes c.args.deciders.now) (g.D.Deciders.shapes c.early.new.self) c.in_ok-extension.ensures.shapes NothingEarly (at_none c.in_ok-extension.field-0 _ _ c.in-None.is c.in_ok-extension.ensures.due)

pub returns-in-None-clause-decided : goal.returns-in-None-clause-decided
returns-in-None-clause-decided g c = ok_map c.after_early.result _ _ (decided_back c.args.pool.now c.early.new.pool c.after_early.new.pool c.early.ensures.extends c.args.branch.now c.requires.over (g.D.Deciders.shapes c.args.deciders.now) (g.D.Deciders.shapes c.early.new.self) c.in_ok-extension.ensures.shapes) c.after_early.ensures.decided
