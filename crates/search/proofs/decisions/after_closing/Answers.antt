use Rattle.certificates.specs.ProofTraces.{NothingEarly}
use Rattle.term_pool.proofs.GrowthLemmas.{extends_itself}
use Rattle.search.proofs.ApplicationLemmas.{shaped_fact_stays, decided_back, ok_map}
use Rattle.search.proofs.decisions.after_closing.Goals as goal

pub in_haste-requires-clause-early : goal.in_haste-requires-clause-early
in_haste-requires-clause-early g c = shaped_fact_stays c.args.pool.now c.args.pool.now (extends_itself c.args.pool.now) c.args.branch.now c.requires.over (g.D.Deciders.shapes c.args.deciders.now) (g.D.Deciders.shapes c.is_urgent.new.self) c.in_ok-is_urgent.ensures.shapes NothingEarly (c.requires.early)

pub with_near-requires-clause-early : goal.with_near-requires-clause-early
with_near-requires-clause-early g c = shaped_fact_stays c.args.pool.now c.args.pool.now (extends_itself c.args.pool.now) c.args.branch.now c.requires.over (g.D.Deciders.shapes c.args.deciders.now) (g.D.Deciders.shapes c.is_urgent.new.self) c.in_ok-is_urgent.ensures.shapes NothingEarly (c.requires.early)

pub returns-then-is_urgent-clause-decided : goal.returns-then-is_urgent-clause-decided
returns-then-is_urgent-clause-decided g c = ok_map c.in_haste.result _ _ (decided_back c.args.pool.now c.args.pool.now c.in_haste.new.pool (extends_itself c.args.pool.now) c.args.branch.now c.requires.over (g.D.Deciders.shapes c.args.deciders.now) (g.D.Deciders.shapes c.is_urgent.new.self) c.in_ok-is_urgent.ensures.shapes) c.in_haste.ensures.decided

pub returns-else-is_urgent-clause-decided : goal.returns-else-is_urgent-clause-decided
returns-else-is_urgent-clause-decided g c = ok_map c.with_near.result _ _ (decided_back c.args.pool.now c.args.pool.now c.with_near.new.pool (extends_itself c.args.pool.now) c.args.branch.now c.requires.over (g.D.Deciders.shapes c.args.deciders.now) (g.D.Deciders.shapes c.is_urgent.new.self) c.in_ok-is_urgent.ensures.shapes) c.with_near.ensures.decided
