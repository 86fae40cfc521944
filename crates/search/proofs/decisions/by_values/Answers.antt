use Rattle.certificates.specs.ProofTraces.{IsLate}
use Rattle.search.specs.Decisions.{HasRoom, IsLevel}
use Rattle.search.proofs.ApplicationLemmas.{over_stays, fact_stays, shaped_fact_stays, decided_back, ok_map}
use Rattle.search.proofs.decisions.by_values.Goals as goal

pub with_plain-requires-clause-over : goal.with_plain-requires-clause-over
with_plain-requires-clause-over g c = over_stays c.args.pool.now c.promising.new.pool c.promising.ensures.extends c.args.branch.now c.requires.over

pub with_plain-requires-clause-room : goal.with_plain-requires-clause-room
with_plain-requires-clause-room g c = fact_stays c.args.pool.now c.promising.new.pool c.promising.ensures.extends HasRoom c.args.branch.now c.requires.over c.requires.room

pub with_plain-requires-clause-level : goal.with_plain-requires-clause-level
with_plain-requires-clause-level g c = fact_stays c.args.pool.now c.promising.new.pool c.promising.ensures.extends IsLevel c.args.branch.now c.requires.over c.requires.level

pub with_plain-requires-clause-late : goal.with_plain-requires-clause-late
with_plain-requires-clause-late g c = shaped_fact_stays c.args.pool.now c.promising.new.pool c.promising.ensures.extends c.args.branch.now c.requires.over (g.D.Deciders.shapes c.args.deciders.now) (g.D.Deciders.shapes c.promising.new.self) c.in_ok-extension.ensures.shapes IsLate (c.requires.late)

pub returns-in-None-clause-decided : goal.returns-in-None-clause-decided
returns-in-None-clause-decided g c = ok_map c.with_plain.result _ _ (decided_back c.args.pool.now c.promising.new.pool c.with_plain.new.pool c.promising.ensures.extends c.args.branch.now c.requires.over (g.D.Deciders.shapes c.args.deciders.now) (g.D.Deciders.shapes c.promising.new.self) c.in_ok-extension.ensures.shapes) c.with_plain.ensures.decided
